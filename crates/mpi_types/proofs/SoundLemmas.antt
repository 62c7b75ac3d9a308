-- What sound arguments bring.
use Rattle.std.proofs.Common.{ℕ, ℤ, pos, negsuc, zero, suc, ◌≡◌, ◌+◌, ◌*◌, ◌<◌, ◌≤◌, ◌&&◌, ◌∙◌, true, eqb, List, [], ◌∷◌, length, get_or, refl, sym, ap, subst, arith}
use Rattle.std.specs.List.{list_all}
use Rattle.std.proofs.lemmas.Bool.{and_parts, ltb-true, eqb-true, eq-eqb}
use Rattle.mpi_types.specs.declared.argument.Arg.{Arg}
use Rattle.std.proofs.lemmas.Nat.{mul-le}
use Rattle.mpi_types.specs.declared.collective.Collective.TheVariants.{Scatter}
use Rattle.mpi_types.specs.Collected.{root_of, is_member, sent_blocks, block_bytes, are_alike, is_allowed, is_type_allowed, is_operation_allowed, is_body_whole, are_bodies_whole, are_sound, Brings, body_of}

-- each body is whole
bodies_at : (first : Arg) (n i : ℕ) (list : List Arg) (k : ℕ) (d : Arg) → are_bodies_whole first n i list ≡ true → k < length list
    → is_body_whole first n (i + k) (get_or list k d) ≡ true
bodies_at first n i [] k d whole within = absurd (omega arith)
bodies_at first n i (a ∷ list) zero d whole within =
    let e : i ≡ i + 0 = omega arith in
    ap (λ m. is_body_whole first n m a) (sym e)
    ∙ (and_parts (is_body_whole first n i a) (are_bodies_whole first n (i + 1) list) whole).0
bodies_at first n i (a ∷ list) (suc k) d whole within =
    let e : i + suc k ≡ (i + 1) + k = omega arith in
    ap (λ m. is_body_whole first n m (get_or list k d)) e
    ∙ bodies_at first n (i + 1) list k d
    (and_parts (is_body_whole first n i a) (are_bodies_whole first n (i + 1) list) whole).1 (omega arith)

root_within : (n : ℕ) (root : ℤ) → is_member n root ≡ true → root_of root < n
root_within n (pos r) e = ltb-true r n e
root_within n (negsuc r) e = cc

brings_from : (first : Arg) (rest : List Arg) → are_sound (first ∷ rest) ≡ true → Brings first (first ∷ rest)
brings_from first rest sound =
    let list = first ∷ rest in
    let n = length list in
    let front = and_parts (list_all (are_alike first) rest && is_allowed n first) (are_bodies_whole first n 0 list) sound in
    let allowed = (and_parts (list_all (are_alike first) rest) (is_allowed n first) front.0).1 in
    let member = (and_parts (is_member n first.root && is_type_allowed first.kind first.datatype)
    (is_operation_allowed first.kind first.operation first.datatype) allowed).0 in
    record {
      root = root_within n first.root (and_parts (is_member n first.root) (is_type_allowed first.kind first.datatype) member).0;
      blocks = λ k d within.
          let whole = bodies_at first n 0 list k d front.1 within in
          let e : 0 + k ≡ k = omega arith in
          let P : ℕ → Type 0 = λ m. is_body_whole first n m (get_or list k d) ≡ true in
          eqb-true (length (get_or list k d).body) (sent_blocks first.kind n (eqb (root_of first.root) k) * block_bytes first)
          (subst P e whole);
    }

-- sound arguments bring their blocks
pub brings_of : (list : List Arg) (first : Arg) → 0 < length list → first ≡ get_or list 0 first → are_sound list ≡ true → Brings first list
brings_of [] first some is sound = absurd (omega arith)
brings_of (x ∷ rest) first some is sound =
    let P : Arg → Type 0 = λ a. Brings a (x ∷ rest) in subst P (sym is) (brings_from x rest sound)

-- the body of a member
pub body_at : (list : List Arg) (i : ℕ) (d : Arg) → i < length list → body_of list i ≡ (get_or list i d).body
body_at [] i d within = absurd (omega arith)
body_at (a ∷ list) zero d within = refl
body_at (a ∷ list) (suc i) d within = body_at list i d (omega arith)

-- a root scatters a block to each member
pub scatters : (first : Arg) (list : List Arg) (member : ℕ) → Brings first list → first.kind ≡ Scatter → member < length list
    → (member + 1) * block_bytes first ≤ length (body_of list (root_of first.root))
scatters first list member brings is within =
    let root = root_of first.root in
    let n = length list in
    let sends : sent_blocks first.kind n (eqb root root) ≡ n =
    ap (λ kind. sent_blocks kind n (eqb root root)) is ∙ ap (λ b. sent_blocks Scatter n b) (eq-eqb root root refl) in
    let long : length (get_or list root first).body ≡ n * block_bytes first =
    brings.blocks root first brings.root ∙ ap (λ k. k * block_bytes first) sends in
    let at : length (body_of list root) ≡ n * block_bytes first = ap length (body_at list root first brings.root) ∙ long in
    let le : (member + 1) * block_bytes first ≤ n * block_bytes first =
    mul-le (member + 1) (block_bytes first) n (block_bytes first) (omega arith) (omega arith) in
    omega (arith, le, at)

-- what sound arguments are, of their first one
pub sound_parts : (first : Arg) (rest list : List Arg) → list ≡ first ∷ rest
    → are_sound list ≡ (list_all (are_alike first) rest && is_allowed (length list) first && are_bodies_whole first (length list) 0 list)
sound_parts first rest list e =
    let P : List Arg → Type 0 = λ l. are_sound l
    ≡ (list_all (are_alike first) rest && is_allowed (length l) first && are_bodies_whole first (length l) 0 l) in
    subst P (sym e) refl
