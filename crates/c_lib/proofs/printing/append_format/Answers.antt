use Rattle.std.proofs.Common.{◌∷◌, [], List, ℕ, ap, sym, ◌∙◌, get_or, drop}
use Rattle.std.proofs.lemmas.List.{take_rest}
use Rattle.am_base.specs.declared.traps.TrapCause.TheVariants.{BadAddress, BadFormat}
use Rattle.rank_range.specs.Areas.{areas_of}
use Rattle.rank_range.specs.Formats as formats
use Rattle.rank_range.specs.Library.{behind_text, converts}
use Rattle.c_lib.specs.Pieces.{conversion_of, what_in}
use Rattle.c_lib.proofs.PrintLemmas.{left_of, shorter, plain_left, converted_left, missing_left, ended_left, behind_twice, behind_joined, behind_wrong, behind_whole, stop_stays}
use Rattle.c_lib.proofs.printing.append_format.Goals as goal

pub loop-byte-smaller-in-Ok-Plain-default : goal.loop-byte-smaller-in-Ok-Plain-default
loop-byte-smaller-in-Ok-Plain-default g c =
    let is = rw c.in-Ok-Plain-default.field-0-0-is at c.in-Ok-Plain-default.ensures in
    shorter c.loop-byte.rest.now c.in-Ok-Plain-default.more.now (formats.Plain c.in-Ok-Plain-default.byte) is

pub loop-byte-preserved-in-Ok-Plain-default : goal.loop-byte-preserved-in-Ok-Plain-default
loop-byte-preserved-in-Ok-Plain-default g c =
    let areas = areas_of (g.M.Mem.rank_of c.args.m.now) (g.M.Mem.top_of c.args.m.now) (g.M.Mem.bytes_of c.args.m.now) in
    let is = rw c.in-Ok-Plain-default.field-0-0-is at c.in-Ok-Plain-default.ensures in
    let out = c.loop-byte.out in
    let byte = c.in-Ok-Plain-default.byte in
    let next = left_of areas c.in-Ok-Plain-default.more.now c.loop-byte.left.now in
    c.loop-byte.invariant
    ∙ ap (behind_text out) (plain_left areas c.loop-byte.rest.now c.in-Ok-Plain-default.more.now c.loop-byte.left.now byte is)
    ∙ behind_twice out (byte ∷ []) next
    ∙ ap (λ (xs : List ℕ). behind_text xs next) (sym c.in_ok-push-in-Ok-Plain-default.ensures.ok)

pub loop-byte-smaller : goal.loop-byte-smaller
loop-byte-smaller g c =
    let is = rw c.in-Ok-Converts-default.field-0-0-is at c.in-Ok-Converts-default.ensures in
    shorter c.loop-byte.rest.now c.in-Ok-Converts-default.more.now (formats.Converts (conversion_of c.in-Ok-Converts-default.conversion)) is

pub loop-byte-preserved : goal.loop-byte-preserved
loop-byte-preserved g c =
    let areas = areas_of (g.M.Mem.rank_of c.args.m.now) (g.M.Mem.top_of c.args.m.now) (g.M.Mem.bytes_of c.args.m.now) in
    let is = rw c.in-Ok-Converts-default.field-0-0-is at c.in-Ok-Converts-default.ensures in
    let out = c.loop-byte.out in
    let new = c.convert.new.out in
    let left = c.loop-byte.left.now in
    let more = c.in-Ok-Converts-default.more.now in
    let conversion = c.in-Ok-Converts-default.conversion in
    c.loop-byte.invariant
    ∙ ap (behind_text out) (converted_left areas c.loop-byte.rest.now more left (conversion_of conversion) is c.in-len1-up.len_at_least)
    ∙ behind_joined out new (converts areas (conversion_of conversion) (what_in conversion.what) (get_or left 0 0)) (left_of areas more (drop 1 left)) c.in-Ok.ensures
    ∙ ap (λ (xs : List ℕ). behind_text new (left_of areas more xs)) (sym (take_rest left 1))

pub returns-in_default : goal.returns-in_default
returns-in_default g c =
    let areas = areas_of (g.M.Mem.rank_of c.args.m.now) (g.M.Mem.top_of c.args.m.now) (g.M.Mem.bytes_of c.args.m.now) in
    let is = rw c.in-Ok-Converts-default.field-0-0-is at c.in-Ok-Converts-default.ensures in
    behind_wrong c.args.out.now (left_of areas c.args.format.now c.args.words.now) BadFormat
    (c.loop-byte.invariant
    ∙ ap (behind_text c.loop-byte.out) (missing_left areas c.loop-byte.rest.now c.in-Ok-Converts-default.more.now c.loop-byte.left.now (conversion_of c.in-Ok-Converts-default.conversion) is c.in_default.len_below))

pub returns-in-Err : goal.returns-in-Err
returns-in-Err g c =
    let areas = areas_of (g.M.Mem.rank_of c.args.m.now) (g.M.Mem.top_of c.args.m.now) (g.M.Mem.bytes_of c.args.m.now) in
    let is = rw c.in-Ok-Converts-default.field-0-0-is at c.in-Ok-Converts-default.ensures in
    let out = c.loop-byte.out in
    let left = c.loop-byte.left.now in
    let more = c.in-Ok-Converts-default.more.now in
    let conversion = c.in-Ok-Converts-default.conversion in
    stop_stays c.args.out.now out c.convert.new.out c.convert.new.out (left_of areas c.args.format.now c.args.words.now)
    (converts areas (conversion_of conversion) (what_in conversion.what) (get_or left 0 0)) (left_of areas more (drop 1 left)) c.in-Err.stop
    (c.loop-byte.invariant
    ∙ ap (behind_text out) (converted_left areas c.loop-byte.rest.now more left (conversion_of conversion) is c.in-len1-up.len_at_least))
    c.in-Err.ensures

pub returns-in-Err-Whole : goal.returns-in-Err-Whole
returns-in-Err-Whole g c =
    let areas = areas_of (g.M.Mem.rank_of c.args.m.now) (g.M.Mem.top_of c.args.m.now) (g.M.Mem.bytes_of c.args.m.now) in
    let is = rw c.in-Err-Whole.field-0-is at c.in-Err-Whole.ensures in
    c.loop-byte.invariant
    ∙ behind_whole c.loop-byte.out (left_of areas c.loop-byte.rest.now c.loop-byte.left.now)
    (ended_left areas c.loop-byte.rest.now c.loop-byte.left.now formats.Whole is)

pub returns-in-Err-Bad : goal.returns-in-Err-Bad
returns-in-Err-Bad g c =
    let areas = areas_of (g.M.Mem.rank_of c.args.m.now) (g.M.Mem.top_of c.args.m.now) (g.M.Mem.bytes_of c.args.m.now) in
    let is = rw c.in-Err-Bad.field-0-is at c.in-Err-Bad.ensures in
    behind_wrong c.args.out.now (left_of areas c.args.format.now c.args.words.now) BadFormat
    (c.loop-byte.invariant ∙ ap (behind_text c.loop-byte.out) (ended_left areas c.loop-byte.rest.now c.loop-byte.left.now formats.Bad is))

pub returns-in-Err-Open : goal.returns-in-Err-Open
returns-in-Err-Open g c =
    let areas = areas_of (g.M.Mem.rank_of c.args.m.now) (g.M.Mem.top_of c.args.m.now) (g.M.Mem.bytes_of c.args.m.now) in
    let is = rw c.in-Err-Open.field-0-is at c.in-Err-Open.ensures in
    behind_wrong c.args.out.now (left_of areas c.args.format.now c.args.words.now) BadAddress
    (c.loop-byte.invariant ∙ ap (behind_text c.loop-byte.out) (ended_left areas c.loop-byte.rest.now c.loop-byte.left.now formats.Open is))
