-- Communicators, collectives and what a rank keeps of others are read back.
use Rattle.std.proofs.Common.{◌≡◌, ◌∙◌, ◌⊎◌, ℕ, true, List, length, Option, Some, None, refl, ap, inl, inr, arith, ◌==◌, ◌&&◌}
use Rattle.std.specs.List.{list_all}
use Rattle.std.proofs.lemmas.Bool.{eqb-true}
use Rattle.byte_formats.specs.Formats.{number64, many}
use Rattle.byte_formats.specs.Lawful.{IsFormat}
use Rattle.byte_formats.specs.FormatLaws.{number8_is, number16_is, number32_is, number64_is, nothing_is, both_is, made_is, restricted_is, ascending_is, many_is, counted_is, listed_is, both_true}
use Rattle.byte_formats.specs.ChoiceLaws.{one_of_three_is}
use Rattle.mpi_types.specs.declared.argument.Arg.{Arg}
use Rattle.mpi_types.specs.declared.argument.Joined.{Joined}
use Rattle.rank_image.specs.MessageLaws.{context_is, message_is, argument_is, arguments_is, tree_message_is}
use Rattle.rank_image.specs.RequestLaws.{requests_is}
use Rattle.rank_image.specs.Middle.{rank, members, communicator, communicators, Own, own, joined_with, own_of, joined_of, choice_with, joined_choice, joined, middle, ranks_number, both_many, pairs, held_message, held, arrived, tree, tail}

pub rank_is : IsFormat rank
unfolding rank
rank_is = made_is _ _ _ (λ y. refl) (λ x. refl) number16_is

pub members_is : IsFormat members
unfolding members
members_is = listed_is _ _ number16_is rank_is

pub communicator_is : IsFormat communicator
unfolding communicator
communicator_is =
    made_is _ _ _ (λ y. refl) (λ x. refl) (both_is _ _ number8_is (both_is _ _ context_is (both_is _ _ number32_is members_is)))

pub communicators_is : IsFormat communicators
unfolding communicators
communicators_is = ascending_is _ _ (listed_is _ _ (restricted_is _ _ number8_is) communicator_is)

pub own_is : IsFormat own
unfolding own
own_is = both_is _ _ context_is (both_is _ _ number32_is argument_is)

with_there : (p : Own) (g : Option (List Arg)) → joined_of (choice_with p g) ≡ Some (joined_with p g)
with_there p None = refl
with_there p (Some args) = refl

joined_there : (o : Option Joined) → joined_of (joined_choice o) ≡ o
joined_there None = refl
joined_there (Some j) = with_there (own_of j) j.gathered

joined_here : (c : Unit {0} ⊎ (Own ⊎ (Own × List Arg))) → joined_choice (joined_of c) ≡ c
joined_here (inl u) = refl
joined_here (inr (inl p)) = refl
joined_here (inr (inr q)) = refl

pub joined_is : IsFormat joined
unfolding joined
joined_is =
    made_is _ _ _ joined_there joined_here
    (one_of_three_is 0 1 2 _ _ _ (omega arith) (omega arith) (omega arith) nothing_is own_is (both_is _ _ own_is arguments_is))

pub middle_is : IsFormat middle
unfolding middle
middle_is = made_is _ _ _ (λ y. refl) (λ x. refl) (both_is _ _ requests_is (both_is _ _ communicators_is joined_is))

pub ranks_number_is : IsFormat ranks_number
unfolding ranks_number
ranks_number_is = restricted_is _ _ number16_is

many_size : (n : ℕ) (xs : List ℕ) → (many number64 n).fits xs ≡ true → length xs ≡ n
many_size n xs e = eqb-true (length xs) n (both_true (length xs == n) (list_all number64.fits xs) e).0

pub pairs_is : IsFormat pairs
unfolding pairs
pairs_is =
    counted_is ranks_number both_many (λ p. length p.0) ranks_number_is (λ n. both_is _ _ (many_is _ n number64_is) (many_is _ n number64_is))
    (λ n p e. many_size n p.0 (both_true ((many number64 n).fits p.0) ((many number64 n).fits p.1) e).0)

pub held_message_is : IsFormat held_message
unfolding held_message
held_message_is = made_is _ _ _ (λ y. refl) (λ x. refl) (both_is _ _ number64_is message_is)

pub held_is : IsFormat held
unfolding held
held_is = ascending_is _ _ (listed_is _ _ number32_is held_message_is)

pub arrived_is : IsFormat arrived
unfolding arrived
arrived_is = listed_is _ _ number32_is message_is

pub tree_is : IsFormat tree
unfolding tree
tree_is = ascending_is _ _ (listed_is _ _ number32_is tree_message_is)

pub tail_is : IsFormat tail
unfolding tail
tail_is =
    made_is _ _ _ (λ y. refl) (λ x. refl) (both_is _ _ pairs_is (both_is _ _ held_is (both_is _ _ arrived_is tree_is)))
