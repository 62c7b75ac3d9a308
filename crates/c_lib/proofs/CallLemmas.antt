-- What the functions of the library do, from what was read and written.
use Rattle.std.proofs.Common.{◌≡◌, ℕ, ◌+◌, List, [], ◌∷◌, ◌++◌, length, ap, sym, ◌∙◌, arith, Option, Some, None}
use Rattle.std.specs.Prelude.{ℤ, pos, negsuc, option_map}
use Rattle.std.specs.Int.{w32, cast_signed}
use Rattle.am_base.specs.declared.traps.TrapCause.TheVariants.{BadAddress}
use Rattle.rank_range.specs.declared.kinds.Kind.TheVariants.{Int}
use Rattle.rank_range.specs.Kinds.{low_bits, reduced, word_of, extended}
use Rattle.rank_range.specs.Areas.{Areas, with_bytes_at, copied_at, text_at}
use Rattle.rank_range.specs.Library.{LibraryDone, Does, Fails, with_int, with_read, with_written}
use Rattle.c_lib.proofs.ChangeLemmas.{copied_text}

low_again : (z : ℤ) → low_bits 32 (pos (low_bits 32 z)) ≡ low_bits 32 z
low_again (pos n) = omega arith
low_again (negsuc n) = omega arith

reduced_again : (z : ℤ) → reduced Int (pos (low_bits 32 z)) ≡ reduced Int z
unfolding reduced
reduced_again z = ap (cast_signed w32) (low_again z)

some_same : (a b : ℕ) → Some a ≡ Some b → a ≡ b
some_same a b same = cc

none_is_some : (a : ℕ) → Some a ≡ None → ⊥
none_is_some a same = cc

pub atoi_does : (o : Option ℤ) (bits value : ℕ) (text : List ℕ) (areas : Areas) → Some bits ≡ option_map (low_bits 32) o
    → value ≡ extended Int bits → text ≡ [] → with_int o areas ≡ Does value text areas
unfolding extended
atoi_does None bits value text areas is number none = absurd (none_is_some bits is)
atoi_does (Some z) bits value text areas is number none =
    let same : value ≡ word_of (reduced Int z) =
    number ∙ ap (λ (n : ℕ). word_of (reduced Int (pos n))) (some_same bits (low_bits 32 z) is) ∙ ap word_of (reduced_again z) in
    ap (λ (v : ℕ). Does v [] areas) (sym same) ∙ ap (λ (t : List ℕ). Does value t areas) (sym none)

-- the text that is copied with its zero
abbrev pub copies : Areas → ℕ → ℕ → LibraryDone
copies areas to from =
    with_read (text_at areas from) (λ text. with_written (with_bytes_at areas to (text ++ 0 ∷ [])) (λ new. Does to [] new))

copies_text : (areas : Areas) (to from : ℕ) (text : List ℕ) → Some text ≡ text_at areas from
    → copies areas to from ≡ with_written (copied_at areas to from (length text + 1)) (λ new. Does to [] new)
copies_text areas to from text is =
    ap (λ (o : Option (List ℕ)). with_read o (λ t. with_written (with_bytes_at areas to (t ++ 0 ∷ [])) (λ new. Does to [] new))) (sym is)
    ∙ ap (λ (o : Option Areas). with_written o (λ new. Does to [] new)) (copied_text areas to from text is)

pub copies_yes : (areas new : Areas) (to from n value : ℕ) (text shown : List ℕ) → Some text ≡ text_at areas from → n ≡ length text + 1
    → copied_at areas to from n ≡ Some new → value ≡ to → shown ≡ [] → copies areas to from ≡ Does value shown new
copies_yes areas new to from n value text shown is count done same none =
    copies_text areas to from text is
    ∙ ap (λ (k : ℕ). with_written (copied_at areas to from k) (λ new. Does to [] new)) (sym count)
    ∙ ap (λ (o : Option Areas). with_written o (λ new. Does to [] new)) done
    ∙ ap (λ (v : ℕ). Does v [] new) (sym same) ∙ ap (λ (t : List ℕ). Does value t new) (sym none)

pub copies_no : (areas : Areas) (to from n : ℕ) (text : List ℕ) → Some text ≡ text_at areas from → n ≡ length text + 1
    → copied_at areas to from n ≡ None → copies areas to from ≡ Fails BadAddress
copies_no areas to from n text is count refused =
    copies_text areas to from text is
    ∙ ap (λ (k : ℕ). with_written (copied_at areas to from k) (λ new. Does to [] new)) (sym count)
    ∙ ap (λ (o : Option Areas). with_written o (λ new. Does to [] new)) refused
