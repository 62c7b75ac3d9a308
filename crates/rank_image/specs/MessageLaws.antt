-- Contexts, messages and arguments are read back.
use Rattle.std.proofs.Common.{◌≡◌, refl}
use Rattle.byte_formats.specs.Formats.{both, number32, signed32, number8}
use Rattle.byte_formats.specs.Lawful.{IsFormat}
use Rattle.byte_formats.specs.FormatLaws.{number8_is, number16_is, number32_is, signed32_is, text_is, both_is, made_is, coded_is, restricted_is, listed_is}
use Rattle.rank_image.specs.CodeLaws.{collective_there, collective_here, direction_there, direction_here}
use Rattle.rank_image.specs.Messages.{level, context, sent, message, kind_of, argument_head, argument_rest, argument, arguments, direction, gift, tree_message}

pub level_is : IsFormat level
unfolding level
level_is = made_is _ _ _ (λ y. refl) (λ x. refl) (both_is _ _ number32_is signed32_is)

pub context_is : IsFormat context
unfolding context
context_is = listed_is _ _ (restricted_is _ _ number8_is) level_is

pub sent_is : IsFormat sent
unfolding sent
sent_is = both_is _ _ number16_is (both_is _ _ signed32_is text_is)

pub message_is : IsFormat message
unfolding message
message_is = made_is _ _ _ (λ y. refl) (λ x. refl) (both_is _ _ number16_is (both_is _ _ context_is sent_is))

pub kind_is : IsFormat kind_of
unfolding kind_of
kind_is = coded_is _ _ _ (λ y h. collective_there y) collective_here number8_is

pub argument_head_is : IsFormat argument_head
unfolding argument_head
argument_head_is = both_is _ _ number16_is (both_is _ _ kind_is (both_is _ _ signed32_is (both_is _ _ number8_is number8_is)))

pub argument_rest_is : IsFormat argument_rest
unfolding argument_rest
argument_rest_is = both_is _ _ number32_is (both_is _ _ signed32_is (both_is _ _ signed32_is text_is))

pub argument_is : IsFormat argument
unfolding argument
argument_is = made_is _ _ _ (λ y. refl) (λ x. refl) (both_is _ _ argument_head_is argument_rest_is)

pub arguments_is : IsFormat arguments
unfolding arguments
arguments_is = listed_is _ _ number16_is argument_is

pub direction_is : IsFormat direction
unfolding direction
direction_is = coded_is _ _ _ (λ y h. direction_there y) direction_here number8_is

pub gift_is : IsFormat gift
unfolding gift
gift_is = both_is _ _ number32_is (both_is _ _ direction_is (both_is _ _ number16_is arguments_is))

pub tree_message_is : IsFormat tree_message
unfolding tree_message
tree_message_is = made_is _ _ _ (λ y. refl) (λ x. refl) (both_is _ _ context_is gift_is)
