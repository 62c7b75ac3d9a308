-- What each answer tells, from what the parts of the program give.
use Rattle.std.proofs.Common.{drop, get_or, Result, Ok, Err, IfErr, ℕ, ◌≡◌, ◌+◌, ◌<◌, ◌≤◌, List, [], ◌∷◌, ◌++◌, length, take, Bool, true, false, ◌||◌, zero, suc, Some, refl, sym, ap, ◌∙◌, subst, arith, ◌⊎◌, inl, inr, map, string_bytes}
use Rattle.std.proofs.Math.Seq.{drop-cons}
use Rattle.std.proofs.lemmas.List.{length-map, length-take-le, take-append-drop, get_or-map}
use Rattle.std.proofs.lemmas.List.Elements.{all_zip_more}
use Rattle.std.specs.Prelude.{slice_get}
use Rattle.std.specs.List.{list_any}
use Rattle.vm_code.specs.declared.code.Code.{Code}
use Rattle.am_io.specs.Faults.{Rose}
use Rattle.am_io.specs.Contents.{Held, Loads}
use Rattle.run_words.specs.Words.{Asked, AskForRun, AskForCode}
use Rattle.run_words.specs.Asks.{IsAskedBy}
use Rattle.run_words.specs.declared.command.Command.{Command}
use Rattle.run_words.proofs.ReadingLemmas.{one_run}
use Rattle.run_words.proofs.RankLemmas.{few-ranks, bounded-ticks}
use Rattle.vm_code.specs.declared.instr.Instr.{Instr}
use Rattle.vm_code.specs.Listing.{listing_from}
use Rattle.rank_machine.specs.Ran.{is_mpi}
use Rattle.c_compile.specs.declared.compiled.Compiled.{Compiled}
use Rattle.c_compile.specs.declared.error.Refusal.{Refusal}
use Rattle.c_compile.specs.Causes.{cause_number}
use Rattle.c_compile.specs.Programs.{IsCompiled, AreShort}
use Rattle.c_compile.specs.Once.{AnswersAreOne}
use Rattle.cluster.specs.Job.{CallsNoMpi}
use Rattle.w_model.specs.World.{Setting}
use Rattle.w_model.specs.declared.report.End.{End}
use Rattle.w_model.specs.declared.report.End.TheVariants as end
use Rattle.ampi.specs.declared.status.Status.{Status}
use Rattle.ampi.specs.declared.status.Status.TheVariants.{Done, Usage, ReadFault, TooLong, Source, Deadlock, OutOfTicks, Trapped, WriteFault, NoMemory}
use Rattle.mpi_types.specs.declared.entries.Entry.{Entry}
use Rattle.ampi.specs.Puts.{Piece, ToOut, Puts, GotWhole, GotPart}
use Rattle.ampi.specs.Runs.{IsRun, PutsRun, PutsRunPart}
use Rattle.ampi.specs.Sources.{AskForFiles, IsLoaded, AreLoaded, IsReached, IsTooLong, CallsMpi, CallMpi, AreRun, AreNotDone, AreFewAndShort, calls_mpi, source_limit, source_text, setting_of}
use Rattle.ampi.specs.Answers.{Reads, Answers, Explains, Headline, Listed, ToldUsage, ToldOfFile, ToldOfSource, IsUsage, IsAccepted, IsBrokenOff, status_of, usage_text, too_long_text, cannot_read_text}
use Rattle.ampi.specs.Yields.{Yields, EndsRun, EndsRunOrNoMemory, Comes}

pub few-asked : (words : List (List ℕ)) (command : Command) → IsAskedBy words command → command.ranks ≤ 256
few-asked words command asked = omega (arith, asked.ranks, few-ranks words asked.asked asked.asks)

pub bounded-asked : (words : List (List ℕ)) (command : Command) → IsAskedBy words command → command.ticks ≤ 16000000
bounded-asked words command asked = omega (arith, asked.ticks, bounded-ticks words asked.asked asked.asks)

-- a run asks for few files
pub few-files : (words : List (List ℕ)) (command : Command) → ((asked : Asked) → AskForRun words asked → (1 ≤ length asked.files) × (length asked.files ≤ 16))
    → IsAskedBy words command → length command.files.items ≤ 16
few-files words command few asked =
    let same : length (map string_bytes command.files.items) ≡ length asked.asked.files = ap length asked.files in
    let long : length (map string_bytes command.files.items) ≡ length command.files.items = length-map command.files.items string_bytes in
    omega (arith, same, long, (few asked.asked asked.asks).1)

-- the files that the words of a run ask for
pub asks-files : (words : List (List ℕ)) (command : Command) (names : List (List ℕ)) → IsAskedBy words command
    → names ≡ map string_bytes command.files.items → AskForFiles words names
asks-files words command names asked named = inl (asked.asked, asked.asks, sym (named ∙ asked.files))

-- what the words ask for in place of what was read of them
moved : (P : List (List ℕ) → ℕ → ℕ → Type 0) {names files : List (List ℕ)} (ranks ranks' ticks ticks' : ℕ) → names ≡ files → ranks ≡ ranks' → ticks ≡ ticks'
    → P names ranks ticks → P files ranks' ticks'
moved P {names} {files} ranks ranks' ticks ticks' named ranked ticked p =
    let A : ℕ → Type 0 = λ n. P names n ticks in
    let B : ℕ → Type 0 = λ n. P names ranks' n in
    let C : List (List ℕ) → Type 0 = λ n. P n ranks' ticks' in
    subst C named (subst B ticked (subst A ranked p))

accepted : (words : List (List ℕ)) (held : Held) (command : Command) (names texts : List (List ℕ)) (compiled : Compiled)
    (asked : IsAskedBy words command) → names ≡ map string_bytes command.files.items → AreLoaded held names texts → AreRun texts compiled
    → IsAccepted words held asked.asked compiled
accepted words held command names texts compiled asked named loaded is =
    let P : List (List ℕ) → Type 0 = λ names. AreLoaded held names texts in
    record { asks = asked.asks; texts = texts; loaded = subst P (named ∙ asked.files) loaded; is_run = is }

-- a run tells this, with this end
headline-of : (words : List (List ℕ)) (held : Held) (command : Command) (names texts : List (List ℕ)) (compiled : Compiled) (pieces : List Piece) (e : End)
    (asked : IsAskedBy words command) → names ≡ map string_bytes command.files.items → AreLoaded held names texts → AreRun texts compiled
    → (history : List Entry) → IsRun asked.asked.files (setting_of asked.asked compiled) history pieces e → Headline words held e pieces
headline-of words held command names texts compiled pieces e asked named loaded is history run = record {
  asked = asked.asked;
  compiled = compiled;
  history = history;
  accepted = accepted words held command names texts compiled asked named loaded is;
  cut_and_marked = run.cut_and_marked;
  allowed = run.allowed;
  ended = run.ended;
  texts = run.texts;
  in_order = run.in_order;
  status = sym run.status;
}

explains-end : (words : List (List ℕ)) (r : Reads) (pieces : List Piece) (e : End) → Headline words r.held e pieces
    → Explains words r (status_of e) pieces
explains-end words r pieces end.Done headline = inl headline
explains-end words r pieces end.Deadlock headline = headline
explains-end words r pieces end.OutOfTicks headline = headline
explains-end words r pieces (end.Trapped rank) headline = headline

-- an answer that is told, whole and in part
pub told-whole : (words : List (List ℕ)) (r : Reads) (p : Puts) (status : Status) (pieces : List Piece) → Explains words r status pieces
    → GotWhole p pieces → Answers words r p status
told-whole words r p Done pieces explains got = record { pieces = pieces; explains = explains; got = got }
told-whole words r p Deadlock pieces explains got = record { pieces = pieces; explains = explains; got = got }
told-whole words r p OutOfTicks pieces explains got = record { pieces = pieces; explains = explains; got = got }
told-whole words r p (Trapped rank) pieces explains got = record { pieces = pieces; explains = explains; got = got }
told-whole words r p Usage pieces explains got = record { pieces = pieces; explains = explains; got = got }
told-whole words r p (ReadFault file) pieces explains got = record { pieces = pieces; explains = explains; got = got }
told-whole words r p (TooLong file) pieces explains got = record { pieces = pieces; explains = explains; got = got }
told-whole words r p (Source file line cause) pieces explains got = record { pieces = pieces; explains = explains; got = got }
told-whole words r p WriteFault pieces explains got = absurd explains
told-whole words r p NoMemory pieces explains got = absurd explains

pub part-of-told : (words : List (List ℕ)) (r : Reads) (p : Puts) (status : Status) (pieces : List Piece) → Explains words r status pieces
    → GotPart p pieces → IsBrokenOff words r p
part-of-told words r p status pieces explains got = inl (record { status = status; pieces = pieces; explains = explains; got = got })

-- a run of what was compiled, with so many ranks and ticks
abbrev pub run-setting : Compiled → ℕ → ℕ → Setting
run-setting compiled ranks ticks = record { program = compiled.program; segment = compiled.segment; ranks = ranks; bound = ticks }

pub answers-run : (words : List (List ℕ)) (r : Reads) (command : Command) (names texts : List (List ℕ)) (compiled : Compiled) (p : Puts) (e : End)
    (status : Status) → status ≡ status_of e → IsAskedBy words command → names ≡ map string_bytes command.files.items
    → AreLoaded r.held names texts → AreRun texts compiled
    → PutsRun names (run-setting compiled command.ranks command.ticks) p e → Answers words r p status
answers-run words r command names texts compiled p e status status_is asked named loaded is put =
    let P : Status → Type 0 = λ s. Answers words r p s in
    let Q : List (List ℕ) → ℕ → ℕ → Type 0 = λ files n m. PutsRun files (run-setting compiled n m) p e in
    let here = moved Q command.ranks asked.asked.ranks command.ticks asked.asked.ticks (named ∙ asked.files) asked.ranks asked.ticks put in
    let headline = headline-of words r.held command names texts compiled here.pieces e asked named loaded is here.history here.run in
    subst P (sym status_is) (told-whole words r p (status_of e) here.pieces (explains-end words r here.pieces e headline) here.got)

pub part-told : (words : List (List ℕ)) (r : Reads) (command : Command) (names texts : List (List ℕ)) (compiled : Compiled) (p : Puts)
    → IsAskedBy words command → names ≡ map string_bytes command.files.items → AreLoaded r.held names texts → AreRun texts compiled
    → PutsRunPart names (run-setting compiled command.ranks command.ticks) p → IsBrokenOff words r p
part-told words r command names texts compiled p asked named loaded is put =
    let Q : List (List ℕ) → ℕ → ℕ → Type 0 = λ files n m. PutsRunPart files (run-setting compiled n m) p in
    elim (moved Q command.ranks asked.asked.ranks command.ticks asked.asked.ticks (named ∙ asked.files) asked.ranks asked.ticks put) [
      | inl header ↦ inr (record {
        asked = asked.asked;
        compiled = compiled;
        accepted = accepted words r.held command names texts compiled asked named loaded is;
        got = header;
      })
      | inr run ↦
          let headline = headline-of words r.held command names texts compiled run.pieces run.end asked named loaded is run.history run.run in
          part-of-told words r p (status_of run.end) run.pieces (explains-end words r run.pieces run.end headline) run.got
    ]

pub told-source : (words : List (List ℕ)) (held : Held) (names texts : List (List ℕ)) (refusal : Refusal)
    → AskForFiles words names → AreLoaded held names texts → AreNotDone words names texts refusal
    → ToldOfSource words held refusal.unit refusal.line (cause_number refusal.cause) (ToOut (source_text names refusal) ∷ [])
told-source words held names texts refusal asks loaded because = record {
  names = names;
  asks = asks;
  texts = texts;
  loaded = loaded;
  refusal = refusal;
  because = because;
  file_is = refl;
  line_is = refl;
  cause_is = refl;
  text_is = refl;
}

pub told-listing : (words : List (List ℕ)) (held : Held) (names texts : List (List ℕ)) (compiled : Compiled) → AskForCode words names
    → AreLoaded held names texts → IsCompiled texts compiled → Listed words held (ToOut (listing_from 0 compiled.code.instrs) ∷ [])
told-listing words held names texts compiled asks loaded is =
    record { names = names; asks = asks; texts = texts; loaded = loaded; compiled = compiled; is_compiled = is; text_is = refl }

pub told-too-long : (words : List (List ℕ)) (held : Held) (names : List (List ℕ)) (file : ℕ) (name text : List ℕ) → AskForFiles words names
    → IsReached held names file name → Loads held name source_limit text → length text ≤ source_limit + 1 → source_limit < length text
    → ToldOfFile words held file (IsTooLong held) too_long_text (ToOut (too_long_text name) ∷ [])
told-too-long words held names file name text asks reached loads within past = record {
  names = names;
  asks = asks;
  name = name;
  reached = reached;
  because = record { text = text; loads = loads; past = omega (arith, within, past) };
  text_is = refl;
}

pub told-cannot-read : (words : List (List ℕ)) (held : Held) (old new : ℕ) (names : List (List ℕ)) (file : ℕ) (name : List ℕ) → AskForFiles words names
    → IsReached held names file name → Rose old new
    → ToldOfFile words held file (λ name. Rose old new) cannot_read_text (ToOut (cannot_read_text name) ∷ [])
told-cannot-read words held old new names file name asks reached rose =
    record { names = names; asks = asks; name = name; reached = reached; because = rose; text_is = refl }

pub told-usage : (words : List (List ℕ)) → IsUsage words → ToldUsage words (ToOut usage_text ∷ [])
told-usage words refused = record { refused = refused; text_is = refl }

-- ---- loaded files

short-texts : (held : Held) (names texts : List (List ℕ)) → AreLoaded held names texts → (length texts ≡ length names) × AreShort texts
short-texts held [] [] loaded = (refl, tt)
short-texts held [] (text ∷ texts) loaded = absurd loaded
short-texts held (name ∷ names) [] loaded = absurd loaded
short-texts held (name ∷ names) (text ∷ texts) loaded =
    let rest = short-texts held names texts loaded.1 in
    (ap suc rest.0, (omega (arith, loaded.0.within), rest.1))

pub few-and-short : {S : Type 0} (held : Held) (f : S → List ℕ) (names : List S) (texts : List (List ℕ)) → length names ≤ 16
    → AreLoaded held (map f names) texts → AreFewAndShort texts
few-and-short held f names texts few loaded =
    let is = short-texts held (map f names) texts loaded in
    let long : length (map f names) ≡ length names = length-map names f in
    (omega (arith, is.0, long, few), is.1)

-- the next of files whose texts are loaded so far

split-at : (xs : List (List ℕ)) (i : ℕ) (x : List ℕ) → i < length xs → x ≡ get_or xs i x → xs ≡ take i xs ++ x ∷ drop (suc i) xs
split-at xs i x p e =
    sym (take-append-drop i xs)
    ∙ ap (λ ys. take i xs ++ ys) (drop-cons xs i x p ∙ ap (λ y. y ∷ drop (suc i) xs) (sym e))

named-as : {S : Type 0} (f : S → List ℕ) (names : List S) (at : ℕ) (text : S) (name : List ℕ) → at < length names → text ≡ get_or names at text
    → name ≡ f text → name ≡ get_or (map f names) at name
named-as f names at text name within is name_is = name_is ∙ ap f is ∙ sym (get_or-map f names at text name within)

pub one-more-loaded : {S : Type 0} (held : Held) (f : S → List ℕ) (names : List S) (at : ℕ) (text : S) (name : List ℕ) (texts : List (List ℕ)) (more : List ℕ)
    → at < length names → text ≡ get_or names at text → name ≡ f text → AreLoaded held (take at (map f names)) texts → IsLoaded held name more
    → AreLoaded held (take (at + 1) (map f names)) (texts ++ more ∷ [])
one-more-loaded held f names at text name texts more within is name_is loaded next =
    let long : length (map f names) ≡ length names = length-map names f in
    all_zip_more (IsLoaded held) (map f names) texts at name more (omega (arith, within, long)) (named-as f names at text name within is name_is) loaded next

pub reached-at : {S : Type 0} (held : Held) (f : S → List ℕ) (names : List S) (at : ℕ) (text : S) (name : List ℕ) (texts : List (List ℕ))
    → at < length names → text ≡ get_or names at text → name ≡ f text → AreLoaded held (take at (map f names)) texts
    → IsReached held (map f names) at name
reached-at held f names at text name texts within is name_is loaded =
    let long : length (map f names) ≡ length names = length-map names f in
    let below : at < length (map f names) = omega (arith, within, long) in
    record {
      before = take at (map f names);
      behind = drop (suc at) (map f names);
      texts = texts;
      names_are = split-at (map f names) at name below (named-as f names at text name within is name_is);
      file_is = sym (length-take-le at (map f names) (omega (arith, below)));
      loaded = loaded;
    }

-- an error that is want of memory
pub only-memory : {T : Type 0} (r : Result T Status) (P : Status → Type 0) → IfErr r (λ s. s ≡ NoMemory) → P NoMemory → IfErr r P
only-memory (Ok x) P is p = tt
only-memory (Err e) P is p = subst P (sym is) p

abbrev err-of : {T : Type 0} → Result T Status → Status
err-of (Ok x) = NoMemory
err-of (Err e) = e

pub same-err : {T : Type 0} (a b : Status) (r s : Result T Status) → r ≡ Err a → s ≡ Err b → r ≡ s → a ≡ b
same-err a b r s r_is s_is same = ap err-of (sym r_is ∙ same ∙ s_is)

-- ---- calls of MPI

one-call : (i : Instr) (is : List Instr) (b : Bool) → is_mpi (Some i) ≡ b → (b || list_any (λ i. is_mpi (Some i)) is) ≡ true
    → (list_any (λ i. is_mpi (Some i)) is ≡ true → (place : ℕ) × (is_mpi (slice_get is place) ≡ true))
    → (place : ℕ) × (is_mpi (slice_get (i ∷ is) place) ≡ true)
one-call i is true here e rest = (0, here)
one-call i is false here e rest = let found = rest e in (suc found.0, found.1)

list-calls : (instrs : List Instr) → list_any (λ i. is_mpi (Some i)) instrs ≡ true → (place : ℕ) × (is_mpi (slice_get instrs place) ≡ true)
list-calls [] e = absurd (no e)
  where
    no : false ≡ true → ⊥
    no e = cc
list-calls (i ∷ is) e = one-call i is (is_mpi (Some i)) refl e (list-calls is)

or-false : (a b : Bool) → (a || b) ≡ false → (a ≡ false) × (b ≡ false)
or-false true b e = absurd (cc)
or-false false b e = (refl, e)

list-calls-none : (instrs : List Instr) → list_any (λ i. is_mpi (Some i)) instrs ≡ false → (place : ℕ) → is_mpi (slice_get instrs place) ≡ false
list-calls-none [] e place = refl
list-calls-none (i ∷ is) e zero = (or-false (is_mpi (Some i)) (list_any (λ i. is_mpi (Some i)) is) e).0
list-calls-none (i ∷ is) e (suc place) = list-calls-none is (or-false (is_mpi (Some i)) (list_any (λ i. is_mpi (Some i)) is) e).1 place

pub calls : (code : Code) → calls_mpi code ≡ true → CallsMpi code
calls code e = let found = list-calls code.instrs e in record { place = found.0; call = found.1 }

pub calls-none : (code : Code) → calls_mpi code ≡ false → CallsNoMpi code
calls-none code e place = list-calls-none code.instrs e place

-- ---- which answer comes

-- The laws of the words and of what is compiled.
pub record Laws : Type 0 where
  pub apart : (words : List (List ℕ)) (asked : Asked) (names : List (List ℕ)) → AskForRun words asked → AskForCode words names → ⊥
  pub one : (words : List (List ℕ)) (a b : List (List ℕ)) → AskForCode words a → AskForCode words b → a ≡ b
  pub answers : AnswersAreOne

-- what an answer that isn't broken off tells of the words and the file
record RunTold (words : List (List ℕ)) (held : Held) : Type 0 where
  asked : Asked
  compiled : Compiled
  accepted : IsAccepted words held asked compiled

record CodeTold (words : List (List ℕ)) (held : Held) : Type 0 where
  names : List (List ℕ)
  asks : AskForCode words names
  texts : List (List ℕ)
  loaded : AreLoaded held names texts
  compiled : Compiled
  is_compiled : IsCompiled texts compiled

record FileTold (words : List (List ℕ)) (held : Held) (file : ℕ) (reason : List ℕ → Type 0) : Type 0 where
  names : List (List ℕ)
  asks : AskForFiles words names
  name : List ℕ
  reached : IsReached held names file name
  because : reason name

record SourceTold (words : List (List ℕ)) (held : Held) (file line cause : ℕ) : Type 0 where
  names : List (List ℕ)
  asks : AskForFiles words names
  texts : List (List ℕ)
  loaded : AreLoaded held names texts
  refusal : Refusal
  because : AreNotDone words names texts refusal
  status_is : Source file line cause ≡ Source refusal.unit refusal.line (cause_number refusal.cause)

abbrev Tells : List (List ℕ) → Held → Status → Type 0
Tells words held Done = RunTold words held ⊎ CodeTold words held
Tells words held Deadlock = RunTold words held
Tells words held OutOfTicks = RunTold words held
Tells words held (Trapped rank) = RunTold words held
Tells words held Usage = IsUsage words
Tells words held (ReadFault file) = FileTold words held file (λ name. Unit {0})
Tells words held (TooLong file) = FileTold words held file (IsTooLong held)
Tells words held (Source file line cause) = SourceTold words held file line cause
Tells words held WriteFault = Unit {0}
Tells words held NoMemory = Unit {0}

run-told : (words : List (List ℕ)) (held : Held) (e : End) (pieces : List Piece) → Headline words held e pieces → RunTold words held
run-told words held e pieces h = record { asked = h.asked; compiled = h.compiled; accepted = h.accepted }

done-told : (words : List (List ℕ)) (held : Held) (pieces : List Piece) → Headline words held end.Done pieces ⊎ Listed words held pieces
    → RunTold words held ⊎ CodeTold words held
done-told words held pieces (inl h) = inl (run-told words held end.Done pieces h)
done-told words held pieces (inr l) =
    inr (record { names = l.names; asks = l.asks; texts = l.texts; loaded = l.loaded; compiled = l.compiled; is_compiled = l.is_compiled })

source-told : (words : List (List ℕ)) (held : Held) (file line cause : ℕ) (pieces : List Piece) → ToldOfSource words held file line cause pieces
    → SourceTold words held file line cause
source-told words held file line cause pieces t = record {
  names = t.names;
  asks = t.asks;
  texts = t.texts;
  loaded = t.loaded;
  refusal = t.refusal;
  because = t.because;
  status_is = ap (λ f. Source f line cause) t.file_is ∙ ap (λ l. Source t.refusal.unit l cause) t.line_is
      ∙ ap (Source t.refusal.unit t.refusal.line) t.cause_is;
}

tells : (words : List (List ℕ)) (r : Reads) (p : Puts) (status : Status) → Answers words r p status → Tells words r.held status
tells words r p Done told = done-told words r.held told.pieces told.explains
tells words r p Deadlock told = run-told words r.held end.Deadlock told.pieces told.explains
tells words r p OutOfTicks told = run-told words r.held end.OutOfTicks told.pieces told.explains
tells words r p (Trapped rank) told = run-told words r.held (end.Trapped (record { 0 = rank })) told.pieces told.explains
tells words r p Usage told = told.explains.refused
tells words r p (ReadFault file) told =
    record { names = told.explains.names; asks = told.explains.asks; name = told.explains.name; reached = told.explains.reached; because = tt }
tells words r p (TooLong file) told =
    record {
      names = told.explains.names;
      asks = told.explains.asks;
      name = told.explains.name;
      reached = told.explains.reached;
      because = told.explains.because;
    }
tells words r p (Source file line cause) told = source-told words r.held file line cause told.pieces told.explains
tells words r p WriteFault told = tt
tells words r p NoMemory told = tt

no-file : (words names : List (List ℕ)) → IsUsage words → AskForFiles words names → ⊥
no-file words names usage (inl run) = usage.no_run run.0 run.1
no-file words names usage (inr code) = usage.no_code names code

no-run : (words : List (List ℕ)) (held : Held) → IsUsage words → RunTold words held → ⊥
no-run words held usage told = usage.no_run told.asked told.accepted.asks

usage-told : (words : List (List ℕ)) (held : Held) (status : Status) → Tells words held status → IsUsage words → Yields Usage status
usage-told words held Done (inl told) usage = absurd (no-run words held usage told)
usage-told words held Done (inr told) usage = absurd (usage.no_code told.names told.asks)
usage-told words held Deadlock told usage = absurd (no-run words held usage told)
usage-told words held OutOfTicks told usage = absurd (no-run words held usage told)
usage-told words held (Trapped rank) told usage = absurd (no-run words held usage told)
usage-told words held Usage told usage = refl
usage-told words held (ReadFault file) told usage = absurd (no-file words told.names usage told.asks)
usage-told words held (TooLong file) told usage = absurd (no-file words told.names usage told.asks)
usage-told words held (Source file line cause) told usage = absurd (no-file words told.names usage told.asks)
usage-told words held WriteFault told usage = tt
usage-told words held NoMemory told usage = tt

pub usage-comes : (words : List (List ℕ)) (r : Reads) (p : Puts) (status : Status) → Answers words r p status
    → IsUsage words → Yields Usage status
usage-comes words r p status told usage = usage-told words r.held status (tells words r p status told) usage

-- loaded files

loaded-same : (files : List (List ℕ × List ℕ)) (names a b : List (List ℕ)) → AreLoaded (Some files) names a → AreLoaded (Some files) names b → a ≡ b
loaded-same files [] [] [] p q = refl
loaded-same files [] [] (y ∷ b) p q = absurd q
loaded-same files [] (x ∷ a) b p q = absurd p
loaded-same files (name ∷ names) [] b p q = absurd p
loaded-same files (name ∷ names) (x ∷ a) [] p q = absurd q
loaded-same files (name ∷ names) (x ∷ a) (y ∷ b) p q =
    ap (λ z. z ∷ a) (p.0.loads ∙ sym q.0.loads) ∙ ap (λ zs. y ∷ zs) (loaded-same files names a b p.1 q.1)

loads-within : (files : List (List ℕ × List ℕ)) (name text : List ℕ) → IsLoaded (Some files) name text → IsTooLong (Some files) name → ⊥
loads-within files name text loaded long =
    omega (arith, long.past, loaded.within, ap length (loaded.loads ∙ sym long.loads))

-- of files that are all loaded none is too long
loaded-within : (files : List (List ℕ × List ℕ)) (before behind : List (List ℕ)) (name : List ℕ) (texts : List (List ℕ))
    → AreLoaded (Some files) (before ++ name ∷ behind) texts → IsTooLong (Some files) name → ⊥
loaded-within files [] behind name [] loaded long = loaded
loaded-within files [] behind name (text ∷ texts) loaded long = loads-within files name text loaded.0 long
loaded-within files (n ∷ before) behind name [] loaded long = loaded
loaded-within files (n ∷ before) behind name (text ∷ texts) loaded long = loaded-within files before behind name texts loaded.1 long

-- one file at most is the first that is too long
first-long : (files : List (List ℕ × List ℕ)) (before other behind tail : List (List ℕ)) (name long : List ℕ) (texts more : List (List ℕ))
    → before ++ name ∷ behind ≡ other ++ long ∷ tail → AreLoaded (Some files) before texts → AreLoaded (Some files) other more
    → IsTooLong (Some files) name → IsTooLong (Some files) long → length before ≡ length other
first-long files [] [] behind tail name long texts more same p q here there = refl
first-long files [] (n ∷ other) behind tail name long texts [] same p q here there = absurd q
first-long files [] (n ∷ other) behind tail name long texts (text ∷ more) same p q here there =
    let named : n ≡ name = cc in
    let P : List ℕ → Type 0 = λ m. IsLoaded (Some files) m text in
    absurd (loads-within files name text (subst P named q.0) here)
first-long files (n ∷ before) [] behind tail name long [] more same p q here there = absurd p
first-long files (n ∷ before) [] behind tail name long (text ∷ texts) more same p q here there =
    let named : n ≡ long = cc in
    let P : List ℕ → Type 0 = λ m. IsLoaded (Some files) m text in
    absurd (loads-within files long text (subst P named p.0) there)
first-long files (n ∷ before) (m ∷ other) behind tail name long [] more same p q here there = absurd p
first-long files (n ∷ before) (m ∷ other) behind tail name long (text ∷ texts) [] same p q here there = absurd q
first-long files (n ∷ before) (m ∷ other) behind tail name long (text ∷ texts) (t ∷ more) same p q here there =
    let rest : before ++ name ∷ behind ≡ other ++ long ∷ tail = cc in
    ap suc (first-long files before other behind tail name long texts more rest p.1 q.1 here there)

module _ (laws : Laws) (words : List (List ℕ)) (files : List (List ℕ × List ℕ)) where
  -- the same words ask for the same files
  same-files : (a b : List (List ℕ)) → AskForFiles words a → AskForFiles words b → a ≡ b
  same-files a b (inl p) (inl q) = sym p.2 ∙ ap (λ (asked : Asked). asked.files) (one_run words p.0 q.0 p.1 q.1) ∙ q.2
  same-files a b (inl p) (inr q) = absurd (laws.apart words p.0 b p.1 q)
  same-files a b (inr p) (inl q) = absurd (laws.apart words q.0 a q.1 p)
  same-files a b (inr p) (inr q) = laws.one words a b p q

  -- told files have the same bytes at each load
  same-texts : (a b texts more : List (List ℕ)) → AskForFiles words a → AskForFiles words b
      → AreLoaded (Some files) a texts → AreLoaded (Some files) b more → texts ≡ more
  same-texts a b texts more p q x y =
      let P : List (List ℕ) → Type 0 = λ n. AreLoaded (Some files) n texts in
      loaded-same files b texts more (subst P (same-files a b p q) x) y

  -- none of the files that are loaded within the limit is too long
  not-long : (a b texts : List (List ℕ)) (file : ℕ) (name : List ℕ) → AskForFiles words a → AskForFiles words b → AreLoaded (Some files) a texts
      → IsReached (Some files) b file name → IsTooLong (Some files) name → ⊥
  not-long a b texts file name p q loaded reached long =
      let P : List (List ℕ) → Type 0 = λ n. AreLoaded (Some files) n texts in
      loaded-within files reached.before reached.behind name texts (subst P (same-files a b p q ∙ reached.names_are) loaded) long

  one-long : (a b : List (List ℕ)) (file other : ℕ) (name long : List ℕ) → AskForFiles words a → AskForFiles words b
      → IsReached (Some files) a file name → IsTooLong (Some files) name → IsReached (Some files) b other long → IsTooLong (Some files) long
      → file ≡ other
  one-long a b file other name long p q here is there also =
      here.file_is ∙ first-long files here.before there.before here.behind there.behind name long here.texts there.texts
      (sym here.names_are ∙ same-files a b p q ∙ there.names_are) here.loaded there.loaded is also
      ∙ sym there.file_is

  run-asks : (told : RunTold words (Some files)) → AskForFiles words told.asked.files
  run-asks told = inl (told.asked, told.accepted.asks, refl)

  run-long : (told : RunTold words (Some files)) (names : List (List ℕ)) (file : ℕ) (name : List ℕ) → AskForFiles words names
      → IsReached (Some files) names file name → IsTooLong (Some files) name → ⊥
  run-long told names file name asks reached long =
      not-long told.asked.files names told.accepted.texts file name (run-asks told) asks told.accepted.loaded reached long

  too-long-comes : (status : Status) (names : List (List ℕ)) (file : ℕ) (name : List ℕ) → Tells words (Some files) status
      → ((file : ℕ) → status ≡ ReadFault file → ⊥)
      → AskForFiles words names → IsReached (Some files) names file name → IsTooLong (Some files) name → Yields (TooLong file) status
  too-long-comes Done names file name (inl told) no_fault asks reached long = absurd (run-long told names file name asks reached long)
  too-long-comes Done names file name (inr told) no_fault asks reached long =
      absurd (not-long told.names names told.texts file name (inr told.asks) asks told.loaded reached long)
  too-long-comes Deadlock names file name told no_fault asks reached long = absurd (run-long told names file name asks reached long)
  too-long-comes OutOfTicks names file name told no_fault asks reached long = absurd (run-long told names file name asks reached long)
  too-long-comes (Trapped rank) names file name told no_fault asks reached long = absurd (run-long told names file name asks reached long)
  too-long-comes Usage names file name told no_fault asks reached long = absurd (no-file words names told asks)
  too-long-comes (ReadFault other) names file name told no_fault asks reached long = absurd (no_fault other refl)
  too-long-comes (TooLong other) names file name told no_fault asks reached long =
      ap TooLong (one-long names told.names file other name told.name asks told.asks reached long told.reached told.because)
  too-long-comes (Source other line cause) names file name told no_fault asks reached long =
      absurd (not-long told.names names told.texts file name told.asks asks told.loaded reached long)
  too-long-comes WriteFault names file name told no_fault asks reached long = tt
  too-long-comes NoMemory names file name told no_fault asks reached long = tt

  -- texts that are compiled, or not done with
  calls-or-not : (texts : List (List ℕ)) (compiled : Compiled) → AreRun texts compiled → CallMpi texts → ⊥
  calls-or-not texts compiled is calling =
      let same = laws.answers.compiled texts compiled calling.compiled is.is_compiled calling.is_compiled in
      differ (ap (λ is. is_mpi (slice_get is calling.calls.place)) (sym same.instrs) ∙ is.without_mpi calling.calls.place) calling.calls.call
    where
      differ : {b : Bool} → b ≡ false → b ≡ true → ⊥
      differ no_is yes_is = cc

  run-or-not : (names texts : List (List ℕ)) (compiled : Compiled) (r : Refusal) → AreRun texts compiled → AreNotDone words names texts r → ⊥
  run-or-not names texts compiled r is (inl refused) = laws.answers.apart texts compiled r is.is_compiled refused
  run-or-not names texts compiled r is (inr not_run) = calls-or-not texts compiled is not_run.calls

  code-or-not : (code names texts : List (List ℕ)) (compiled : Compiled) (r : Refusal) → AskForCode words code → IsCompiled texts compiled
      → AreNotDone words names texts r → ⊥
  code-or-not code names texts compiled r asks is (inl refused) = laws.answers.apart texts compiled r is refused
  code-or-not code names texts compiled r asks is (inr not_run) = laws.apart words not_run.asks.0 code not_run.asks.1 asks

  one-refusal : (names other texts : List (List ℕ)) (a b : Refusal) → AreNotDone words names texts a → AreNotDone words other texts b → a ≡ b
  one-refusal names other texts a b (inl p) (inl q) = laws.answers.refused texts a b p q
  one-refusal names other texts a b (inl p) (inr q) = absurd (laws.answers.apart texts q.calls.compiled a q.calls.is_compiled p)
  one-refusal names other texts a b (inr p) (inl q) = absurd (laws.answers.apart texts p.calls.compiled b p.calls.is_compiled q)
  one-refusal names other texts a b (inr p) (inr q) = p.refusal_is ∙ sym q.refusal_is

  run-not-done : (told : RunTold words (Some files)) (names texts : List (List ℕ)) (r : Refusal) → AskForFiles words names → AreLoaded (Some files) names texts
      → AreNotDone words names texts r → ⊥
  run-not-done told names texts r asks loaded because =
      let same = same-texts told.asked.files names told.accepted.texts texts (run-asks told) asks told.accepted.loaded loaded in
      let P : List (List ℕ) → Type 0 = λ t. AreRun t told.compiled in
      run-or-not names texts told.compiled r (subst P same told.accepted.is_run) because

  code-not-done : (told : CodeTold words (Some files)) (names texts : List (List ℕ)) (r : Refusal) → AskForFiles words names → AreLoaded (Some files) names texts
      → AreNotDone words names texts r → ⊥
  code-not-done told names texts r asks loaded because =
      let same = same-texts told.names names told.texts texts (inr told.asks) asks told.loaded loaded in
      let P : List (List ℕ) → Type 0 = λ t. IsCompiled t told.compiled in
      code-or-not told.names names texts told.compiled r told.asks (subst P same told.is_compiled) because

  refusal-comes : (status : Status) (names texts : List (List ℕ)) (r : Refusal) → Tells words (Some files) status
      → ((file : ℕ) → status ≡ ReadFault file → ⊥) → AskForFiles words names → AreLoaded (Some files) names texts → AreNotDone words names texts r
      → Yields (Source r.unit r.line (cause_number r.cause)) status
  refusal-comes Done names texts r (inl told) no_fault asks loaded because = absurd (run-not-done told names texts r asks loaded because)
  refusal-comes Done names texts r (inr told) no_fault asks loaded because = absurd (code-not-done told names texts r asks loaded because)
  refusal-comes Deadlock names texts r told no_fault asks loaded because = absurd (run-not-done told names texts r asks loaded because)
  refusal-comes OutOfTicks names texts r told no_fault asks loaded because = absurd (run-not-done told names texts r asks loaded because)
  refusal-comes (Trapped rank) names texts r told no_fault asks loaded because = absurd (run-not-done told names texts r asks loaded because)
  refusal-comes Usage names texts r told no_fault asks loaded because = absurd (no-file words names told asks)
  refusal-comes (ReadFault file) names texts r told no_fault asks loaded because = absurd (no_fault file refl)
  refusal-comes (TooLong file) names texts r told no_fault asks loaded because = absurd (not-long names told.names texts file told.name asks told.asks loaded told.reached told.because)
  refusal-comes (Source file line cause) names texts r told no_fault asks loaded because =
      let same = same-texts told.names names told.texts texts told.asks asks told.loaded loaded in
      let P : List (List ℕ) → Type 0 = λ t. AreNotDone words told.names t told.refusal in
      let one = one-refusal told.names names texts told.refusal r (subst P same told.because) because in
      ap (λ (x : Refusal). Source x.unit x.line (cause_number x.cause)) (sym one) ∙ sym told.status_is
  refusal-comes WriteFault names texts r told no_fault asks loaded because = tt
  refusal-comes NoMemory names texts r told no_fault asks loaded because = tt

  code-comes : (status : Status) (names texts : List (List ℕ)) (compiled : Compiled) → Tells words (Some files) status
      → ((file : ℕ) → status ≡ ReadFault file → ⊥) → AskForCode words names → AreLoaded (Some files) names texts → IsCompiled texts compiled
      → Yields Done status
  code-comes Done names texts compiled told no_fault asks loaded is = refl
  code-comes Deadlock names texts compiled told no_fault asks loaded is = absurd (laws.apart words told.asked names told.accepted.asks asks)
  code-comes OutOfTicks names texts compiled told no_fault asks loaded is = absurd (laws.apart words told.asked names told.accepted.asks asks)
  code-comes (Trapped rank) names texts compiled told no_fault asks loaded is = absurd (laws.apart words told.asked names told.accepted.asks asks)
  code-comes Usage names texts compiled told no_fault asks loaded is = absurd (told.no_code names asks)
  code-comes (ReadFault file) names texts compiled told no_fault asks loaded is = absurd (no_fault file refl)
  code-comes (TooLong file) names texts compiled told no_fault asks loaded is =
      absurd (not-long names told.names texts file told.name (inr asks) told.asks loaded told.reached told.because)
  code-comes (Source file line cause) names texts compiled told no_fault asks loaded is =
      let same = same-texts told.names names told.texts texts told.asks (inr asks) told.loaded loaded in
      let P : List (List ℕ) → Type 0 = λ t. AreNotDone words told.names t told.refusal in
      absurd (code-or-not names told.names texts compiled told.refusal asks is (subst P same told.because))
  code-comes WriteFault names texts compiled told no_fault asks loaded is = tt
  code-comes NoMemory names texts compiled told no_fault asks loaded is = tt

  run-comes : (status : Status) (asked : Asked) (compiled : Compiled) → Tells words (Some files) status
      → ((file : ℕ) → status ≡ ReadFault file → ⊥) → IsAccepted words (Some files) asked compiled → EndsRun status
  run-comes Done asked compiled told no_fault here = tt
  run-comes Deadlock asked compiled told no_fault here = tt
  run-comes OutOfTicks asked compiled told no_fault here = tt
  run-comes (Trapped rank) asked compiled told no_fault here = tt
  run-comes Usage asked compiled told no_fault here = told.no_run asked here.asks
  run-comes (ReadFault file) asked compiled told no_fault here = no_fault file refl
  run-comes (TooLong file) asked compiled told no_fault here =
      not-long asked.files told.names here.texts file told.name (inl (asked, here.asks, refl)) told.asks here.loaded told.reached told.because
  run-comes (Source file line cause) asked compiled told no_fault here =
      let mine : RunTold words (Some files) = record { asked = asked; compiled = compiled; accepted = here } in
      run-not-done mine told.names told.texts told.refusal told.asks told.loaded told.because
  run-comes WriteFault asked compiled told no_fault here = tt
  run-comes NoMemory asked compiled told no_fault here = tt

-- what was put at an answer says which one comes
pub comes : Laws → (words : List (List ℕ)) (r : Reads) (p : Puts) (status : Status) → Answers words r p status
    → ((file : ℕ) → status ≡ ReadFault file → ⊥) → Comes words r.held status
comes laws words r p status told no_fault = record {
  too_long = λ files names file name is asks reached long.
      too-long-comes laws words files status names file name (told-in files is) no_fault asks reached long;
  refusal = λ files names texts r is asks loaded because.
      refusal-comes laws words files status names texts r (told-in files is) no_fault asks loaded because;
  code = λ files names texts compiled is asks loaded made.
      code-comes laws words files status names texts compiled (told-in files is) no_fault asks loaded made;
  run = λ files asked compiled is here. run-comes laws words files status asked compiled (told-in files is) no_fault here;
}
  where
    told-in : (files : List (List ℕ × List ℕ)) → r.held ≡ Some files → Tells words (Some files) status
    told-in files is = let P : Held → Type 0 = λ h. Tells words h status in subst P is (tells words r p status told)

-- refused words ask for no other answer
pub nothing-comes : (words : List (List ℕ)) (held : Held) (status : Status) → IsUsage words → Comes words held status
nothing-comes words held status usage = record {
  too_long = λ files names file name is asks reached long. absurd (no-file words names usage asks);
  refusal = λ files names texts r is asks loaded because. absurd (no-file words names usage asks);
  code = λ files names texts compiled is asks loaded made. absurd (usage.no_code names asks);
  run = λ files asked compiled is here. absurd (usage.no_run asked here.asks);
}

-- where no write can fail, the answer to an accepted run tells how it ended, or wants memory
pub surely-ends : (status : Status) → EndsRun status → (status ≡ WriteFault → Rose 0 0 ⊎ Rose 0 0) → EndsRunOrNoMemory status
surely-ends Done ends fault = tt
surely-ends Deadlock ends fault = tt
surely-ends OutOfTicks ends fault = tt
surely-ends (Trapped rank) ends fault = tt
surely-ends Usage ends fault = ends
surely-ends (ReadFault file) ends fault = ends
surely-ends (TooLong file) ends fault = ends
surely-ends (Source file line cause) ends fault = ends
surely-ends WriteFault ends fault = elim (fault refl) [ inl rose ↦ omega arith | inr rose ↦ omega arith ]
surely-ends NoMemory ends fault = tt
