use Rattle.std.proofs.Common.{◌-◌, Ok, Some, subst}
use Rattle.edn_reader.specs.declared.resume.Part.TheVariants.{Nothing}
use Rattle.edn_reader.specs.Flat.{BeginsWithElement}
use Rattle.edn_reader.specs.Lent.{piece_of}
use Rattle.edn_reader.specs.Splitting.{SplitterModel, IsBetweenElements, TakesOn}
use Rattle.edn_reader.proofs.Known.{takes_known}
use Rattle.edn_reader.specs.contracts.splitter.Splitter.{the_view}
use Rattle.edn_reader.proofs.splitter.Splitter.take_known.Goals as goal

pub returns-clause-takes : goal.returns-clause-takes
returns-clause-takes c piece first =
    let inside = c.self.inside in
    let found = piece_of c.args.element.now in
    let span = c.as_span-span.result in
    let old = the_view inside in
    let new : SplitterModel = record { taken = span.end; begun = record { start = span.end; part = Nothing }; opens = inside.nesting; fault = inside.fault; ended = span } in
    rw c.nothing-self-inside.ensures (subst (λ (s : SplitterModel). IsBetweenElements s → BeginsWithElement piece s.taken found → TakesOn piece s (Ok (record { used = span.end - inside.taken; whole = Some (span.start, span.end) })) new) c.self.view_is
    (λ between here. takes_known piece old found span c.as_span-span.ensures between here) c.requires.between first)
