-- Laws of images, and what a fitting rank says of its parts.
use Rattle.std.proofs.Common.{◌≡◌, ◌∙◌, ◌+◌, ◌<◌, ◌≤◌, ◌↔◌, ℕ, zero, suc, Bool, true, ◌&&◌, nat_le, List, [], ◌∷◌, ◌++◌, length, Option, Some, None, refl, sym, ap, subst, inl, inr, arith, append-nil, append_assoc}
use Rattle.std.proofs.lemmas.Bool.{eqb-true, cases_eq, leb-true, le-leb}
use Rattle.std.specs.Prelude.{Result, IfOk, nat_lt, take, drop}
use Rattle.std.specs.Int.{w16, from_le_bytes}
use Rattle.std.proofs.Common.{Ok, Err}
use Rattle.rank_image.specs.Head.{head}
use Rattle.am_base.specs.declared.numbers.RankId.{RankId}
use Rattle.byte_formats.specs.Formats.{number16, both}
use Rattle.byte_formats.specs.FormatLaws.{number16_is, none_found, chosen}
use Rattle.rank_image.specs.Middle.{middle, rank, tail}
use Rattle.rank_image.specs.Requests.{requests}
use Rattle.byte_formats.specs.FormatLaws.{both_true, and_is_true}
use Rattle.byte_formats.specs.ChoiceLaws.{one_value}
use Rattle.byte_formats.specs.Lawful.{Spells}
use Rattle.rank_range.specs.Layout.{range_bytes, stack_start}
use Rattle.rank_image.specs.Image.{Rank, Parts, IsImage, rank_number, image, rank_made, parts_of, are_sound, fits_record, fit_records, frame_start, frame_end, operand_count, top_at}
use Rattle.rank_image.specs.ImageLaws.{image_is}
use Rattle.rank_image.specs.State.{IsUnpacked}
use Rattle.rank_image.specs.Sound.{IsRecord, RecordsAreTested, IsOneImage, HasOneImage, NoneIsLonger}

record_told : (bytes : List ℕ) (k : ℕ) → fits_record bytes k ≡ true → IsRecord bytes k
record_told bytes k e =
    let a = both_true (nat_le stack_start (frame_start bytes k)) _ e in
    let b = both_true (nat_le (frame_start bytes k) (frame_end bytes k)) _ a.1 in
    let c = both_true (nat_le (frame_end bytes k) range_bytes) _ b.1 in
    record {
      above = leb-true stack_start (frame_start bytes k) a.0;
      ordered = leb-true (frame_start bytes k) (frame_end bytes k) b.0;
      below = leb-true (frame_end bytes k) range_bytes c.0;
      few = leb-true (operand_count bytes k) 32 c.1;
    }

record_tells : (bytes : List ℕ) (k : ℕ) → IsRecord bytes k → fits_record bytes k ≡ true
record_tells bytes k r =
    and_is_true _ _ (le-leb stack_start (frame_start bytes k) r.above)
    (and_is_true _ _ (le-leb (frame_start bytes k) (frame_end bytes k) r.ordered)
    (and_is_true _ _ (le-leb (frame_end bytes k) range_bytes r.below) (le-leb (operand_count bytes k) 32 r.few)))

records_told : (bytes : List ℕ) (depth : ℕ) → fit_records bytes depth ≡ true → (k : ℕ) → k < depth → IsRecord bytes k
unfolding fit_records
records_told bytes zero e k below = absurd (omega (arith, below))
records_told bytes (suc depth) e k below =
    let both = both_true (fits_record bytes depth) (fit_records bytes depth) e in
    elim (cases_eq k depth) [
      | inl same ↦ subst (λ j. IsRecord bytes j) (sym same) (record_told bytes depth both.0)
      | inr other ↦ records_told bytes depth both.1 k (omega (arith, below, other))
    ]

records_tell : (bytes : List ℕ) (depth : ℕ) → ((k : ℕ) → k < depth → IsRecord bytes k) → fit_records bytes depth ≡ true
unfolding fit_records
records_tell bytes zero h = refl
records_tell bytes (suc depth) h =
    and_is_true _ _ (record_tells bytes depth (h depth (omega arith))) (records_tell bytes depth (λ k below. h k (omega (arith, below))))

pub records_are_tested : RecordsAreTested
records_are_tested bytes depth = (records_told bytes depth, records_tell bytes depth)

pub is_one_image : IsOneImage
is_one_image bytes x y s t = one_value image image_is bytes x y s t

pub has_one_image : HasOneImage
has_one_image a b x s t = s.bytes_are ∙ sym t.bytes_are

pub none_is_longer : NoneIsLonger
none_is_longer bytes more x y s t =
    let first : image.read (bytes ++ more) ≡ Some (x, more) =
    ap (λ bs. image.read (bs ++ more)) s.bytes_are ∙ image_is.back x more s.fits in
    let second : image.read (bytes ++ more) ≡ Some (y, []) =
    ap image.read (t.bytes_are ∙ sym (append-nil (image.spell y))) ∙ image_is.back y [] t.fits in
    let same : ◌≡◌ {A = Option (Rank × List ℕ)} (Some (x, more)) (Some (y, [])) = sym first ∙ second in
    let pairs : ◌≡◌ {A = Rank × List ℕ} (x, more) (y, []) = cc in
    ap (λ (p : Rank × List ℕ). p.1) pairs

-- What a fitting rank says of its parts.
pub record IsFitting (p : Parts) : Type 0 where
  pub whole : length p.0.1 ≡ range_bytes
  pub depth : p.1.0.regs.depth ≤ 256
  pub requests : requests.fits p.1.1.0.requests ≡ true
  pub records : fit_records p.0.1 p.1.0.regs.depth ≡ true

pub is_fitting : (p : Parts) → image.fits (rank_made p) ≡ true → IsFitting p
unfolding image are_sound middle head
is_fitting p e =
    let whole = both_true _ _ e in
    let parts = both_true _ _ whole.0 in
    let front = both_true _ _ parts.0 in
    let rest = both_true _ _ parts.1 in
    let first = both_true _ _ (both_true _ _ rest.0).0 in
    let place = both_true _ _ first.0 in
    let deep : nat_le p.1.0.regs.depth 256 ≡ true = (both_true _ _ place.1).1 in
    let behind = both_true _ _ rest.1 in
    let mid = both_true _ _ behind.0 in
    record {
      whole = eqb-true (length p.0.1) range_bytes front.1;
      depth = leb-true p.1.0.regs.depth 256 deep;
      requests = mid.0;
      records = (both_true _ _ whole.1).0;
    }

-- where a sound rank's data stack ends
pub top_within : (bytes : List ℕ) (depth : ℕ) → fit_records bytes depth ≡ true → (stack_start ≤ top_at bytes depth) × (top_at bytes depth ≤ range_bytes)
unfolding top_at fit_records
top_within bytes zero e = (omega arith, omega arith)
top_within bytes (suc k) e =
    let last = record_told bytes k (both_true (fits_record bytes k) (fit_records bytes k) e).0 in
    (omega (arith, last.above, last.ordered), last.below)

pub if_ok_two : {X E : Type 0} (r : Result X E) (P Q R : X → Type 0) → ((x : X) → P x → Q x → R x) → IfOk r P → IfOk r Q → IfOk r R
if_ok_two (Ok x) P Q R step p q = step x p q
if_ok_two (Err e) P Q R step p q = tt

-- what is unpacked of bytes that spell a rank
pub unpacked : (bytes : List ℕ) (r s : Rank) (top : ℕ) → Spells image bytes r → s ≡ r → top ≡ top_at r.bytes r.regs.depth → IsUnpacked bytes s top
unpacked bytes r s top spells same is =
    subst (λ z. IsUnpacked bytes z top) (sym same) (record { spells = spells; sound = record { fits = spells.fits; top_is = is } })

-- an image begins with its rank's number
pub rank_read : (bytes : List ℕ) (r : Rank) → Spells image bytes r → (rest : List ℕ) × (number16.read bytes ≡ Some (r.rank.0, rest))
unfolding image rank
rank_read bytes r s =
    let parts = both_true _ _ (both_true _ _ s.fits).0 in
    let fits : number16.fits r.rank.0 ≡ true = (both_true _ _ parts.0).0 in
    let behind = (both head (both middle tail)).spell (parts_of r).1 in
    let is : bytes ≡ number16.spell r.rank.0 ++ (r.bytes ++ behind) = s.bytes_are ∙ append_assoc (number16.spell r.rank.0) r.bytes behind in
    (r.bytes ++ behind, ap number16.read is ∙ number16_is.back r.rank.0 (r.bytes ++ behind) fits)

pub same_rank : (bytes rest : List ℕ) (n : ℕ) (r : Rank) → number16.read bytes ≡ Some (n, rest) → Spells image bytes r → ◌≡◌ {A = RankId} (record { 0 = n }) r.rank
same_rank bytes rest n r read s =
    let other = rank_read bytes r s in
    let same : ◌≡◌ {A = Option (ℕ × List ℕ)} (Some (n, rest)) (Some (r.rank.0, other.0)) = sym read ∙ other.1 in
    let pairs : ◌≡◌ {A = ℕ × List ℕ} (n, rest) (r.rank.0, other.0) = cc in
    ap (λ (p : ℕ × List ℕ). record { 0 = p.0 }) pairs

pub rank_is_read : (bytes : List ℕ) → IsImage bytes → number16.read bytes ≡ None → ⊥
rank_is_read bytes i none = let some = rank_read bytes i.0 i.1 in none_found (i.0.rank.0, some.0) (sym none ∙ some.1)

-- the number that is read at the front is the image's number
pub number_read : (bytes rest : List ℕ) (n : ℕ) → number16.read bytes ≡ Some (n, rest) → n ≡ rank_number bytes
unfolding number16 rank_number
number_read bytes rest n e =
    elim (chosen (nat_lt (length bytes) 2) None (Some (from_le_bytes w16 (take 2 bytes), drop 2 bytes)) (Some (n, rest)) e) [
      | inl short ↦ absurd (none_found (n, rest) short.1)
      | inr enough ↦
          let is : ◌≡◌ {A = ℕ × List ℕ} (from_le_bytes w16 (take 2 bytes), drop 2 bytes) (n, rest) = cc in
          sym (ap (λ (p : ℕ × List ℕ). p.0) is)
    ]
