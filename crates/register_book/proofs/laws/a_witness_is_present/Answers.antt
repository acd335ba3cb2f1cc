use Rattle.std.proofs.Common.{◌≡◌, Some}
use Rattle.intervals.specs.Edit.{op_of}
use Rattle.intervals.proofs.Ids.{found_by_id}
use Rattle.zones.specs.AtFirst.{start_of}
use Rattle.register_book.proofs.Excluding.{unwritten_known}
use Rattle.register_book.proofs.Stand.{of_witness}
use Rattle.register_book.proofs.laws.a_witness_is_present.Goals as goal

pub returns : goal.returns
returns c = λ claim ops witness distinct h.
    of_witness (λ op. op_of ops op.id ≡ Some op) claim ops (λ op. found_by_id ops op distinct)
    (λ r e. (c.first_wrong_read_ended_first.ensures claim ops r e).present)
    (λ r e. (c.first_unwritten_ended_first.ensures.first claim.initial ops r (unwritten_known claim ops r e).1).present)
    (λ a b e. let s = c.first_split_ended_first.ensures.split claim ops a b e in (s.a_present, s.b_present))
    (λ r w e. let s = c.first_early_ended_first.ensures.first ops r w e in (s.0.present, s.1))
    (λ a b x d first. c.one_first_crossing.ensures.crossing (start_of claim ops) ops a b x d (c.one_first_crossing.ensures.start claim ops a b x d first)) witness h
