use Rattle.watch.proofs.OnePlain.{first_failure_is_final}
use Rattle.watch.proofs.laws.the_first_failure_is_final.Goals as goal

pub returns : goal.returns
returns c = first_failure_is_final c.what_is_present_after_all_edits.ensures c.each_front_is_legal.ensures c.texts_decide_nothing.ensures.alike
