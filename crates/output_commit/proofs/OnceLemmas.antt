-- What an output over a list of events stands for.
use Rattle.std.proofs.Common.{◌≡◌, ◌∙◌, ◌+◌, ◌≤◌, ℕ, List, [], ◌∷◌, ◌++◌, length, nat_le, refl, sym, ap, inl, inr, arith, append_assoc, append-nil, length-append, subst}
use Rattle.std.proofs.lemmas.Bool.Decides.{leb_tells}
use Rattle.std.proofs.lemmas.List.Elements.{filter-append}
use Rattle.am_base.specs.declared.lines.Line.{Line}
use Rattle.output_commit.specs.Held.{AscendByOne, unreleased}
use Rattle.output_commit.specs.Once.{OutputEvent, Prints, Commits, Drops, GoesBack, Held, Output, Printed, after_event, after_events, at_start, printed_by, printed_by_all, history_of, numbered, IsReleasedOnce, IsRestHeld, HeldAscend}
use Rattle.output_commit.proofs.HeldLemmas.{stays, goes}

numbered-append : (n : ℕ) (a b : List (List ℕ)) → numbered n (a ++ b) ≡ numbered n a ++ numbered (n + length a) b
numbered-append n [] b = let same : n ≡ n + 0 = omega arith in ap (λ k. numbered k b) same
numbered-append n (t ∷ a) b =
    let same : n + 1 + length a ≡ n + length (t ∷ a) = omega arith in
    let first : Line = record { number = n; text = t } in
    ap (λ ls. first ∷ ls) (numbered-append (n + 1) a b ∙ ap (λ k. numbered (n + 1) a ++ numbered k b) same)

numbered_ascend : (n : ℕ) (ts : List (List ℕ)) → AscendByOne (numbered n ts)
numbered_ascend n [] = tt
numbered_ascend n (t ∷ []) = tt
numbered_ascend n (t ∷ u ∷ ts) = (refl, numbered_ascend (n + 1) (u ∷ ts))

-- lines below the count go
none_left : (c n : ℕ) (ts : List (List ℕ)) → n + length ts ≤ c → unreleased c (numbered n ts) ≡ []
none_left c n [] le = refl
none_left c n (t ∷ ts) le =
    let first : Line = record { number = n; text = t } in
    elim (leb_tells c n) [
      | inl yes_it ↦ absurd (omega (arith, yes_it.1, le))
      | inr below ↦ goes c first (numbered (n + 1) ts) below.0 ∙ none_left c (n + 1) ts (omega (arith, le))
    ]

-- lines from the count on stay
all_left : (c n : ℕ) (ts : List (List ℕ)) → c ≤ n → unreleased c (numbered n ts) ≡ numbered n ts
all_left c n [] le = refl
all_left c n (t ∷ ts) le =
    let first : Line = record { number = n; text = t } in
    elim (leb_tells c n) [
      | inl above ↦ stays c first (numbered (n + 1) ts) above.0 ∙ ap (λ ls. first ∷ ls) (all_left c (n + 1) ts (omega (arith, le)))
      | inr below ↦ absurd (omega (arith, below.1, le))
    ]

-- of lines of which those of `back` are released, the others stay
rest_stays : (c n : ℕ) (back since : List (List ℕ)) → c ≡ n + length back
    → unreleased c (numbered n (back ++ since)) ≡ numbered c since
rest_stays c n back since is =
    ap (unreleased c) (numbered-append n back since)
    ∙ filter-append (λ line. nat_le c line.number) (numbered n back) (numbered (n + length back) since)
    ∙ ap (λ ls. ls ++ unreleased c (numbered (n + length back) since)) (none_left c n back (omega (arith, is)))
    ∙ ap (λ k. unreleased c (numbered k since)) (sym is)
    ∙ all_left c c since (omega arith)

-- Held lines are those from some number on, of the committed lines and those since.
record Holds (held : Held) (committed since : List (List ℕ)) : Type 0 where
  front : List (List ℕ)
  back : List (List ℕ)
  parts : committed ≡ front ++ back
  lines : held.lines ≡ numbered (length front) (back ++ since)
  next : held.next ≡ length committed + length since

-- An output stands for a history.
record Stands (o : Output) (p : Printed) : Type 0 where
  released : o.released ≡ numbered 0 p.committed
  count : o.count ≡ length p.committed
  rank : Holds o.rank p.committed p.since
  copy : Holds o.copy p.committed []

rest_of_held : (held : Held) (committed since : List (List ℕ)) (c : ℕ) → Holds held committed since → c ≡ length committed
    → unreleased c held.lines ≡ numbered c since
rest_of_held held committed since c h is =
    ap (unreleased c) h.lines
    ∙ rest_stays c (length h.front) h.back since (omega (arith, is, ap length h.parts, length-append h.front h.back))

prints : (o : Output) (p : Printed) (text : List ℕ) → Stands o p → Stands (after_event o (Prints text)) (printed_by p (Prints text))
prints o p text s =
    let h : Holds o.rank p.committed p.since = s.rank in
    let number : o.rank.next ≡ length h.front + length (h.back ++ p.since) =
    omega (arith, h.next, ap length h.parts, length-append h.front h.back, length-append h.back p.since) in
    record {
      released = s.released;
      count = s.count;
      rank = record {
        front = h.front;
        back = h.back;
        parts = h.parts;
        lines =
            ap (λ ls. ls ++ record { number = o.rank.next; text = text } ∷ []) h.lines
            ∙ ap (λ k. numbered (length h.front) (h.back ++ p.since) ++ numbered k (text ∷ [])) number
            ∙ sym (numbered-append (length h.front) (h.back ++ p.since) (text ∷ []))
            ∙ ap (numbered (length h.front)) (append_assoc h.back p.since (text ∷ []));
        next = omega (arith, h.next, length-append p.since (text ∷ []));
      };
      copy = s.copy;
    }

commits : (o : Output) (p : Printed) → Stands o p → Stands (after_event o Commits) (printed_by p Commits)
commits o p s =
    let h : Holds o.rank p.committed p.since = s.rank in
    let all : Holds o.rank (p.committed ++ p.since) [] = record {
      front = h.front;
      back = h.back ++ p.since;
      parts = ap (λ ts. ts ++ p.since) h.parts ∙ append_assoc h.front h.back p.since;
      lines = h.lines ∙ ap (numbered (length h.front)) (sym (append-nil (h.back ++ p.since)));
      next = omega (arith, h.next, length-append p.committed p.since);
    } in
    record {
      released =
          ap (λ ls. ls ++ unreleased o.count o.rank.lines) s.released
          ∙ ap (λ ls. numbered 0 p.committed ++ ls) (rest_of_held o.rank p.committed p.since o.count h s.count)
          ∙ ap (λ k. numbered 0 p.committed ++ numbered k p.since) (let same : o.count ≡ 0 + length p.committed = omega (arith, s.count) in same)
          ∙ sym (numbered-append 0 p.committed p.since);
      count = omega (arith, h.next, length-append p.committed p.since);
      rank = all;
      copy = all;
    }

drops : (o : Output) (p : Printed) → Stands o p → Stands (after_event o Drops) (printed_by p Drops)
drops o p s =
    record {
      released = s.released;
      count = s.count;
      rank = record {
        front = p.committed;
        back = [];
        parts = sym (append-nil p.committed);
        lines = rest_of_held o.rank p.committed p.since o.count s.rank s.count ∙ ap (λ k. numbered k p.since) s.count;
        next = s.rank.next;
      };
      copy = s.copy;
    }

steps : (o : Output) (p : Printed) (event : OutputEvent) → Stands o p → Stands (after_event o event) (printed_by p event)
steps o p (Prints text) s = prints o p text s
steps o p Commits s = commits o p s
steps o p Drops s = drops o p s
steps o p GoesBack s = record { released = s.released; count = s.count; rank = s.copy; copy = s.copy }

runs : (o : Output) (p : Printed) (events : List OutputEvent) → Stands o p → Stands (after_events o events) (printed_by_all p events)
runs o p [] s = s
runs o p (event ∷ events) s = runs (after_event o event) (printed_by p event) events (steps o p event s)

starts : Stands at_start (record { committed = []; since = [] })
starts =
    let none : Holds at_start.rank [] [] = record { front = []; back = []; parts = refl; lines = refl; next = refl } in
    record { released = refl; count = refl; rank = none; copy = none }

stands : (events : List OutputEvent) → Stands (after_events at_start events) (history_of events)
stands events = runs at_start (record { committed = []; since = [] }) events starts

pub released_once : IsReleasedOnce
released_once events = ((stands events).released, (stands events).count)

pub rest_held : IsRestHeld
rest_held events =
    rest_of_held (after_events at_start events).rank (history_of events).committed (history_of events).since
    (after_events at_start events).count (stands events).rank (stands events).count

pub held_ascend : HeldAscend
held_ascend events =
    let h : Holds (after_events at_start events).rank (history_of events).committed (history_of events).since = (stands events).rank in
    let P : List Line → Type 0 = λ lines. AscendByOne lines in
    subst P (sym h.lines) (numbered_ascend (length h.front) (h.back ++ (history_of events).since))
