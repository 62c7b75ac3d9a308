-- The first refusal of a program is one.
use Rattle.std.proofs.Common.{◌≡◌, ◌≤◌, ◌⊎◌, inl, inr, refl, ap, arith}
use Rattle.c_types.specs.declared.program.Program.{Program}
use Rattle.c_types.specs.declared.program.TokenAt.{TokenAt}
use Rattle.c_types.specs.Places.{IsBefore}
use Rattle.c_types.specs.Segment.{Refusal, TooLarge, Undefined, Twice, order_of, RefusalIsOne}

same_order : (why other : Refusal) → order_of why ≤ order_of other → order_of other ≤ order_of why → why ≡ other
same_order TooLarge TooLarge le ge = refl
same_order TooLarge Undefined le ge = absurd (omega (arith, ge))
same_order TooLarge Twice le ge = absurd (omega (arith, ge))
same_order Undefined TooLarge le ge = absurd (omega (arith, le))
same_order Undefined Undefined le ge = refl
same_order Undefined Twice le ge = absurd (omega (arith, ge))
same_order Twice TooLarge le ge = absurd (omega (arith, le))
same_order Twice Undefined le ge = absurd (omega (arith, le))
same_order Twice Twice le ge = refl

not_both : (a b : TokenAt) → IsBefore a b → IsBefore b a → ⊥
not_both a b (inl less) (inl more) = omega (arith, less, more)
not_both a b (inl less) (inr more) = let e = more.0 in omega (arith, less, e)
not_both a b (inr less) (inl more) = let e = less.0 in omega (arith, e, more)
not_both a b (inr less) (inr more) = let x = less.1 in let y = more.1 in omega (arith, x, y)

not_itself : (a b : TokenAt) → b ≡ a → IsBefore a b → ⊥
not_itself a b same (inl less) = let e = ap (λ (t : TokenAt). t.unit) same in omega (arith, e, less)
not_itself a b same (inr less) = let e = ap (λ (t : TokenAt). t.token) same in let x = less.1 in omega (arith, e, x)

agree : (why other : Refusal) (at there : TokenAt) → IsBefore at there ⊎ ((at ≡ there) × (order_of why ≤ order_of other))
    → IsBefore there at ⊎ ((there ≡ at) × (order_of other ≤ order_of why)) → (why ≡ other) × (at ≡ there)
agree why other at there (inl a) (inl b) = absurd (not_both at there a b)
agree why other at there (inl a) (inr b) = absurd (not_itself at there b.0 a)
agree why other at there (inr a) (inl b) = absurd (not_itself there at a.0 b)
agree why other at there (inr a) (inr b) = (same_order why other a.1 b.1, a.0)

pub refusal_is_one : (program : Program) → RefusalIsOne program
refusal_is_one program = record {
  one = λ why other at there a b. agree why other at there (a.first other there b.holds) (b.first why at a.holds);
  no_segment = λ why at segment refused is. is.accepted why at refused.holds;
}
