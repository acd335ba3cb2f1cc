use Rattle.zones.proofs.Start.{unwritten_excludes_all, split_excludes_all, early_excludes_all, crossing_excludes_all}
use Rattle.zones.proofs.laws.one_fault_excludes_every_arrangement.Goals as goal

pub returns : goal.returns
returns c = record {
  unwritten = λ claim ops r known. unwritten_excludes_all claim ops known r;
  split = λ claim ops a b unknown. split_excludes_all claim ops unknown a b;
  early = λ claim ops r w values. early_excludes_all claim ops values r w;
  crossing = λ claim ops a b x d values. crossing_excludes_all claim ops values a b x d;
}
