use Rattle.std.proofs.Common.{◌++◌, ◌∷◌, [], List, ℕ, ap, sym, ◌∙◌}
use Rattle.c_lex.specs.declared.token.Token.{Token as AToken}
use Rattle.c_lex.proofs.JoinLaws.{put_on, put_behind}
use Rattle.c_lex.proofs.joining.add.Goals as goal

pub returns-then-are_texts : goal.returns-then-are_texts
returns-then-are_texts c =
    put_on c.args.out.now.items c.pop.new.self.items c.push-then-are_texts.new.self.items c.in-Some.last c.args.token c.append.new.self
    c.in-Some.ensures.items (sym c.are_texts.ensures ∙ c.if-are_texts.true)
    (c.in_ok-append.ensures.ok ∙ ap (λ (b : List ℕ). c.in-Some.last.text ++ b) c.as_slice.ensures) c.in_ok-push-2.ensures.items

pub returns : goal.returns
returns c =
    put_behind c.args.out.now.items c.pop.new.self.items c.push-3.new.self.items c.in-Some.last c.args.token
    c.in-Some.ensures.items (sym c.are_texts.ensures ∙ c.if-are_texts.false)
    (c.in_ok-push-4.ensures.items ∙ ap (λ (ts : List AToken). ts ++ c.args.token ∷ []) c.in_ok-push-3.ensures.items)
