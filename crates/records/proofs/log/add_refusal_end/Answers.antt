use Rattle.std.proofs.Common.{◌≡◌, ◌∙◌, ◌++◌, Option, ap}
use Rattle.std.specs.Prelude.{codes}
use Rattle.std.proofs.lemmas.Result.{on_ok_weaker}
use Rattle.places.specs.declared.location.Location.{Location}
use Rattle.places.specs.Spots.{located}
use Rattle.records.specs.Field.{end_symbols, list_symbols}
use Rattle.records.specs.Log.{met_places, refusal_end}
use Rattle.records.specs.Spot.{spot_symbols}
use Rattle.records.specs.Symbol.{symbols_of}
use Rattle.records.proofs.Steps.{then}
use Rattle.records.proofs.log.add_refusal_end.Goals as goal

pub returns : goal.returns
unfolding refusal_end
returns c =
    let old = symbols_of c.args.tokens.now.items in
    let spot = symbols_of c.add_spot.new.tokens.items in
    let list = symbols_of c.add_list.new.tokens.items in
    let met = symbols_of c.add_met_places.new.tokens.items in
    let new = symbols_of c.add_end.new.tokens.items in
    let here = located c.args.places.now c.args.feeder c.args.event in
    let to_spot : spot ≡ old ++ spot_symbols here = c.in_ok-add_spot.ensures ∙ ap (λ (s : Option Location). old ++ spot_symbols s) c.locate.ensures in
    let to_list = then old spot list (spot_symbols here) (list_symbols (codes "with_places")) to_spot c.in_ok-add_list.ensures in
    let to_met = then old list met _ (met_places c.args.places.now c.args.code.now) to_list c.in_ok-add_met_places.ensures in
    on_ok_weaker c.add_end.result (then old met new _ end_symbols to_met) c.add_end.ensures
