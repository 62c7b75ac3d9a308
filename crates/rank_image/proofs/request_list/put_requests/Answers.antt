use Rattle.std.proofs.Common.{arith, refl}
use Rattle.byte_formats.specs.FormatLaws.{fits_number32}
use Rattle.rank_image.specs.Requests.{requests, request_list}
use Rattle.rank_image.proofs.Merging.{requests_fit, requests_spelled, on_ok_by}
use Rattle.rank_image.proofs.request_list.put_requests.Goals as goal

pub put_count32-requires : goal.put_count32-requires
put_count32-requires c = fits_number32 _ (omega (arith, (requests_fit _ c.requires).0))

pub returns : goal.returns
returns c =
    on_ok_by c.put_merged.result _ _
    (λ written. requests_spelled (record { next = c.args.next; complete = c.args.complete.now; posted = c.args.posted.now; matched = c.args.matched.now })
    c.args.out.now c.put_u32.new.out c.put_count32.new.out c.put_merged.new.out _ c.in_ok-put_u32.ensures refl c.in_ok-put_count32.ensures written)
    c.put_merged.ensures
