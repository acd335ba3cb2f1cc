use Rattle.std.proofs.Common.{Some, sym, subst}
use Rattle.edn_reader.specs.declared.parts.Parts.{Parts}
use Rattle.edn_reader.specs.declared.token.Opener.TheVariants.{Map}
use Rattle.edn_reader.specs.Pairs.{in_turn}
use Rattle.edn_reader.specs.Lent.{NextPart}
use Rattle.edn_reader.proofs.Views.{no_pair, first_alone, both_given}
use Rattle.edn_reader.proofs.Lent.{pairs_there, of_pairs, value_left, pairs_left}
use Rattle.edn_reader.proofs.view.MapView.next_pair.Goals as goal

pub returns-in_default-clause-pair : goal.returns-in_default-clause-pair
returns-in_default-clause-pair c pairs h = no_pair pairs (c.in_default.ensures.part Map (in_turn pairs) h)

pub returns-in_default-next-clause-pair : goal.returns-in_default-next-clause-pair
returns-in_default-next-clause-pair c =
    first_alone c.args.self.now.parts c.next.new.self c.next-2.new.self c.args.self.now c.in-Some.key (c.in-Some.ensures.part Map) (c.in_default-next.ensures.part Map)

pub returns-clause-pair : goal.returns-clause-pair
returns-clause-pair c =
    both_given c.args.self.now.parts c.next.new.self c.new.result c.in-Some.key c.in-Some-next.value (c.in-Some.ensures.part Map)
    (λ pieces h. subst (λ (parts : Parts). NextPart Map (Some c.in-Some-next.value) parts pieces) (sym c.new.ensures) (c.in-Some-next.ensures.part Map pieces h))

pub next-requires : goal.next-requires
next-requires c = of_pairs c.args.self.now.parts c.args.self.now.whole

pub next-requires-2 : goal.next-requires-2
next-requires-2 c = value_left c.args.self.now.parts c.next.new.self c.in-Some.key (c.in-Some.ensures.part Map) c.args.self.now.whole

pub new-requires-clause-whole : goal.new-requires-clause-whole
new-requires-clause-whole c =
    pairs_left c.args.self.now.parts c.next.new.self c.next-2.new.self c.in-Some.key c.in-Some-next.value (c.in-Some.ensures.part Map) (c.in-Some-next.ensures.part Map) c.args.self.now.whole

pub returns-in_default-clause-left : goal.returns-in_default-clause-left
returns-in_default-clause-left c = pairs_there c.args.self.now

pub returns-in_default-next-clause-left : goal.returns-in_default-next-clause-left
returns-in_default-next-clause-left c = pairs_there c.args.self.now

pub returns-clause-left : goal.returns-clause-left
returns-clause-left c = pairs_there c.args.self.now
