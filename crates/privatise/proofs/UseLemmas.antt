-- The uses of names that no unit defines.
use Rattle.std.proofs.Common.{ℕ, ◌≡◌, ◌<◌, inl, inr, Bool, true, false, cond, None, List, [], ◌∷◌, length, slice_index_or, refl, ap, sym, subst, ◌∙◌, arith, zero, suc}
use Rattle.std.specs.List.{Contains, fold}
use Rattle.c_types.specs.declared.program.Program.{Program}
use Rattle.c_types.specs.declared.program.TokenAt.{TokenAt}
use Rattle.c_types.specs.declared.program.Use.{Use}
use Rattle.c_types.specs.Segment.{is_defined, IsUndefinedUse}
use Rattle.privatise.specs.First.{IsFirst, earlier}
use Rattle.privatise.proofs.FirstLemmas.{IsAmong, first_among}

-- the tokens of those uses
abbrev pub undefined_tokens : Program → List Use → List TokenAt
undefined_tokens program [] = []
undefined_tokens program (u ∷ us) =
    cond (is_defined program u.used) (undefined_tokens program us) (u.at ∷ undefined_tokens program us)

record IsUndefinedIn (program : Program) (uses : List Use) (t : TokenAt) : Type 0 where
  used : Use
  stands : Contains uses used
  undefined : is_defined program used.used ≡ false
  at_is : t ≡ used.at

behind : (program : Program) (u : Use) (us : List Use) (t : TokenAt) → IsUndefinedIn program us t → IsUndefinedIn program (u ∷ us) t
behind program u us t h = record {
  used = h.used;
  stands = (suc h.stands.0, omega (arith, h.stands.1), h.stands.2);
  undefined = h.undefined;
  at_is = h.at_is;
}

told_by : (program : Program) (u : Use) (us : List Use) (t : TokenAt) (b : Bool) → is_defined program u.used ≡ b
    → (IsAmong (undefined_tokens program us) t → IsUndefinedIn program us t)
    → IsAmong (cond b (undefined_tokens program us) (u.at ∷ undefined_tokens program us)) t → IsUndefinedIn program (u ∷ us) t
told_by program u us t true is rest h = behind program u us t (rest h)
told_by program u us t false is rest (inl e) = record { used = u; stands = (zero, omega arith, refl); undefined = is; at_is = e }
told_by program u us t false is rest (inr h) = behind program u us t (rest h)

told : (program : Program) (us : List Use) (t : TokenAt) → IsAmong (undefined_tokens program us) t → IsUndefinedIn program us t
told program [] t h = absurd h
told program (u ∷ us) t h = told_by program u us t (is_defined program u.used) refl (told program us t) h

here : (rest : List TokenAt) (at t : TokenAt) (b : Bool) → b ≡ false → t ≡ at → IsAmong (cond b rest (at ∷ rest)) t
here rest at t true e h = absurd (cc)
here rest at t false e h = inl h

further : (rest : List TokenAt) (at t : TokenAt) (b : Bool) → IsAmong rest t → IsAmong (cond b rest (at ∷ rest)) t
further rest at t true h = h
further rest at t false h = inr h

among : (program : Program) (us : List Use) (u : Use) (k : ℕ) → k < length us → slice_index_or us k u ≡ u
    → is_defined program u.used ≡ false → IsAmong (undefined_tokens program us) u.at
among program [] u k lt is un = absurd (omega (arith, lt))
among program (x ∷ xs) u zero lt is un =
    here (undefined_tokens program xs) x.at u.at (is_defined program x.used)
    (ap (λ (y : Use). is_defined program y.used) is ∙ un) (ap (λ (y : Use). y.at) (sym is))
among program (x ∷ xs) u (suc k) lt is un =
    further (undefined_tokens program xs) x.at u.at (is_defined program x.used) (among program xs u k (omega (arith, lt)) is un)

-- The first of these tokens is the first at which a name is used that no unit defines.
pub first_undefined : (program : Program) → IsFirst (IsUndefinedUse program) (fold earlier None (undefined_tokens program program.uses))
first_undefined program =
    first_among (IsUndefinedUse program) (undefined_tokens program program.uses)
    (λ t h. let u = told program program.uses t h in
    record { used = u.used; in_program = u.stands; undefined = u.undefined; at_is = u.at_is })
    (λ t h. subst (IsAmong (undefined_tokens program program.uses)) (sym h.at_is)
    (among program program.uses h.used h.in_program.0 h.in_program.1 h.in_program.2 h.undefined))
