use Rattle.std.proofs.Common.{refl, sym, ap, ◌∙◌}
use Rattle.tower_file.specs.declared.fault.TowerField.TheVariants.{Name}
use Rattle.tower_file.specs.Reading.{name_in, kind_in, initial_in, fixed_in}
use Rattle.tower_file.proofs.Vectors.{all_said}
use Rattle.tower_file.proofs.said.read_said.Goals as goal

pub returns : goal.returns
returns c form h =
    let parts = c.in_ok-parts.ensures form.parts h.parts in (
      _,
      all_said form _ _ _ _ _ parts.0 _
          (ap (name_in Name) h.name ∙ c.in_ok-name.ensures)
          (ap kind_in h.kind ∙ sym c.in_ok-kind.ensures)
          (c.in_ok-writers.ensures form.writers h.writers)
          (ap initial_in h.initial ∙ sym c.in_ok-initial.ensures)
          (c.in_ok-domain.ensures form.domain h.domain)
          parts.1
          (ap fixed_in h.fixed ∙ sym c.in_ok-fixed.ensures),
      record { name = refl; kind = refl; writers = refl; initial = refl; domain = refl; parts = parts.2; fixed = refl },
    )
