use Rattle.std.proofs.Common.{◌≡◌, ◌<◌, ◌+◌, ◌-◌, ◌++◌, ℕ, List, [], Option, Some, None, length, take, drop, append-nil, refl, sym, subst, ap, arith}
use Rattle.std.specs.Prelude.{IfSome}
use Rattle.edn_reader.specs.Splitting.{SplitterModel}
use Rattle.feeders.specs.declared.pending.Pending.TheVariants.{Nothing}
use Rattle.feeders.specs.Intake.{GoesTo, HasFed, HasUsed}
use Rattle.logs.specs.Start.{Start}
use Rattle.feeders.specs.Setting.{setting_of}
use Rattle.feeders.proofs.Pieces.{broke_in, can_beside, fed_along, fed_more, fed_rest, fed_settled, fed_waits, rest_is}
use Rattle.feeders.proofs.Taking.{settled_place, used_rest, used_still}
use Rattle.feeders.proofs.intake.Intake.take_piece.Goals as goal

pub loop-at-init : goal.loop-at-init
loop-at-init g c =
    let old = c.args.self.now in
    let new = c.settle.new.self in
    let piece : List ℕ = c.args.piece.now in
    let e = c.in_default.ensures in
    let place = settled_place old new.progress.place piece c.requires.can e.place in
    record {
      within = omega arith;
      none = e.settled;
      can = can_beside piece old new e.beside place.0 place.1 e.can c.requires.can;
      taken = omega (arith, ap (λ (s : SplitterModel). s.taken) e.beside.splitter);
      so_far = λ start bytes fed.
          let setting = setting_of g.O.Opening.plan c.args.site.tower.now c.args.site.field start in
          fed_along setting bytes (bytes ++ take 0 piece) piece (drop 0 piece) new c.settle.new.access.pass (sym (append-nil bytes)) refl
          (fed_settled setting bytes piece old new c.args.access.now.pass c.settle.new.access.pass fed (e.done start fed.items fed.waiting fed.pending) e.beside place.0 e.settled);
    }

pub loop-at-preserved : goal.loop-at-preserved
loop-at-preserved g c =
    let plan = g.O.Opening.plan in
    let tower = c.args.site.tower.now in
    let field = c.args.site.field in
    let piece : List ℕ = c.args.piece.now in
    let at = c.loop-at.at in
    let left : List ℕ = drop at piece in
    let part : List ℕ = take (length piece - at) left in
    let old = c.loop-at.self in
    let new = c.take_next.new.self in
    let state = c.loop-at.invariant in
    let used = c.in-Ok-Some.used in
    let both : HasUsed part old used new × (new.pending ≡ Nothing) × (0 < length part → old.splitter.taken + old.progress.place < new.splitter.taken + new.progress.place) =
    subst (λ (by : Option ℕ). IfSome by (λ used. HasUsed part old used new × (new.pending ≡ Nothing) × (0 < length part → old.splitter.taken + old.progress.place < new.splitter.taken + new.progress.place))) c.in-Ok-Some.field-0-is
    c.in-Ok-Some.ensures.used in
    let is : HasUsed left old used new = subst (λ (xs : List ℕ). HasUsed xs old used new) (rest_is at piece) both.0 in
    let goes : (start : Start) (bytes next : List ℕ) → HasFed (setting_of plan tower field start) bytes (left ++ next) old c.loop-at.access.pass
    → GoesTo (setting_of plan tower field start) bytes left next (Some used) new c.take_next.new.access.pass =
    subst (λ (by : Option ℕ). (start : Start) (bytes next : List ℕ) → HasFed (setting_of plan tower field start) bytes (left ++ next) old c.loop-at.access.pass
    → GoesTo (setting_of plan tower field start) bytes left next by new c.take_next.new.access.pass) c.in-Ok-Some.field-0-is
    (subst (λ (xs : List ℕ). (start : Start) (bytes next : List ℕ) → HasFed (setting_of plan tower field start) bytes (xs ++ next) old c.loop-at.access.pass
    → GoesTo (setting_of plan tower field start) bytes xs next c.in-Ok-Some.field-0 new c.take_next.new.access.pass) (rest_is at piece) c.in-Ok-Some.ensures.goes) in
    let rest = used_rest piece at used c.args.self.now old new state.within state.taken is in
    record {
      within = rest.within;
      none = both.1;
      can = rest.can;
      taken = rest.taken;
      so_far = λ start bytes fed. fed_rest (setting_of plan tower field start) bytes piece at used new c.take_next.new.access.pass
          (goes start (bytes ++ take at piece) [] (fed_more (setting_of plan tower field start) (bytes ++ take at piece) left [] old c.loop-at.access.pass (state.so_far start bytes fed)));
    }

pub returns-in-Err-clause-refused : goal.returns-in-Err-clause-refused
returns-in-Err-clause-refused g c = used_still c.args.piece.now c.args.self.now c.settle.new.self c.in-Err.ensures.beside c.in-Err.ensures.can c.in-Err.ensures.refused.0 c.requires.can

pub returns-in-Err-clause-waits : goal.returns-in-Err-clause-waits
returns-in-Err-clause-waits g c start bytes fed =
    let setting = setting_of g.O.Opening.plan c.args.site.tower.now c.args.site.field start in
    let piece : List ℕ = c.args.piece.now in
    let e = c.in-Err.ensures in
    fed_along setting bytes (bytes ++ []) piece piece c.settle.new.self c.settle.new.access.pass (sym (append-nil bytes)) refl
    (fed_waits setting bytes piece c.args.self.now c.settle.new.self c.args.access.now.pass c.settle.new.access.pass fed (e.waits start fed.items fed.waiting fed.pending) e.beside (omega (arith, e.refused.0, c.requires.can.place)))

pub returns-in-Ok-None-clause-goes : goal.returns-in-Ok-None-clause-goes
returns-in-Ok-None-clause-goes g c start bytes fed =
    let plan = g.O.Opening.plan in
    let tower = c.args.site.tower.now in
    let field = c.args.site.field in
    let piece : List ℕ = c.args.piece.now in
    let at = c.loop-at.at in
    let left : List ℕ = drop at piece in
    let part : List ℕ = take (length piece - at) left in
    let old = c.loop-at.self in
    let new = c.take_next.new.self in
    let state = c.loop-at.invariant in
    let setting = setting_of plan tower field start in
    let goes : (start : Start) (bytes next : List ℕ) → HasFed (setting_of plan tower field start) bytes (left ++ next) old c.loop-at.access.pass
    → GoesTo (setting_of plan tower field start) bytes left next None new c.take_next.new.access.pass =
    subst (λ (by : Option ℕ). (start : Start) (bytes next : List ℕ) → HasFed (setting_of plan tower field start) bytes (left ++ next) old c.loop-at.access.pass
    → GoesTo (setting_of plan tower field start) bytes left next by new c.take_next.new.access.pass) c.in-Ok-None.field-0-is
    (subst (λ (xs : List ℕ). (start : Start) (bytes next : List ℕ) → HasFed (setting_of plan tower field start) bytes (xs ++ next) old c.loop-at.access.pass
    → GoesTo (setting_of plan tower field start) bytes xs next c.in-Ok-None.field-0 new c.take_next.new.access.pass) (rest_is at piece) c.in-Ok-None.ensures.goes) in
    broke_in setting bytes piece at new c.take_next.new.access.pass
    (goes start (bytes ++ take at piece) [] (fed_more setting (bytes ++ take at piece) left [] old c.loop-at.access.pass (state.so_far start bytes fed)))

pub returns-in-Err-take_next-clause-waits : goal.returns-in-Err-take_next-clause-waits
returns-in-Err-take_next-clause-waits g c start bytes fed =
    let plan = g.O.Opening.plan in
    let tower = c.args.site.tower.now in
    let field = c.args.site.field in
    let piece : List ℕ = c.args.piece.now in
    let at = c.loop-at.at in
    let left : List ℕ = drop at piece in
    let part : List ℕ = take (length piece - at) left in
    let old = c.loop-at.self in
    let new = c.take_next.new.self in
    let state = c.loop-at.invariant in
    let setting = setting_of plan tower field start in
    let used = c.in-Err-take_next.failed.used in
    let waits : (start : Start) (bytes next : List ℕ) → HasFed (setting_of plan tower field start) bytes (left ++ next) old c.loop-at.access.pass
    → HasFed (setting_of plan tower field start) (bytes ++ take used left) (drop used left ++ next) new c.take_next.new.access.pass =
    subst (λ (xs : List ℕ). (start : Start) (bytes next : List ℕ) → HasFed (setting_of plan tower field start) bytes (xs ++ next) old c.loop-at.access.pass
    → HasFed (setting_of plan tower field start) (bytes ++ take used xs) (drop used xs ++ next) new c.take_next.new.access.pass) (rest_is at piece) c.in-Err-take_next.ensures.waits in
    fed_rest setting bytes piece at used new c.take_next.new.access.pass
    (waits start (bytes ++ take at piece) [] (fed_more setting (bytes ++ take at piece) left [] old c.loop-at.access.pass (state.so_far start bytes fed)))

pub returns-in-Err-take_next-clause-fault : goal.returns-in-Err-take_next-clause-fault
returns-in-Err-take_next-clause-fault g c start bytes fed claims =
    let plan = g.O.Opening.plan in
    let tower = c.args.site.tower.now in
    let field = c.args.site.field in
    let piece : List ℕ = c.args.piece.now in
    let at = c.loop-at.at in
    let left : List ℕ = drop at piece in
    let part : List ℕ = take (length piece - at) left in
    let old = c.loop-at.self in
    let new = c.take_next.new.self in
    let state = c.loop-at.invariant in
    let setting = setting_of plan tower field start in
    c.in-Err-take_next.ensures.fault start (bytes ++ take at piece) []
    (subst (λ (xs : List ℕ). HasFed setting (bytes ++ take at piece) (xs ++ []) old c.loop-at.access.pass) (sym (rest_is at piece))
    (fed_more setting (bytes ++ take at piece) left [] old c.loop-at.access.pass (state.so_far start bytes fed))) claims
