-- the elements so far are those up to the reader's place, and the spots are theirs
use Rattle.std.proofs.Common.{◌≡◌, ◌≤◌, ◌-◌, length, map}
use Rattle.edn_reader.specs.Lent.{piece_of}
use Rattle.edn_reader.specs.Text.{IsFront}
use Rattle.places.specs.Location.{element_spot}
use Rattle.places.proofs.location.elements_of.Given as goal

abbrev pub invariant-loop-element : goal.invariant-loop-element
invariant-loop-element l = record {
  input : l.reader.input ≡ l.text;
  cursor : l.cursor.text.now ≡ l.text;
  within : l.reader.at ≤ length l.text;
  so_far : IsFront l.text (map piece_of l.elements.items) l.reader.at;
  spots : l.spots.items ≡ map (element_spot l.text) (map piece_of l.elements.items);
  each : length l.elements.items ≡ length l.spots.items;
}

abbrev pub decreases-loop-element : goal.decreases-loop-element
decreases-loop-element l = length l.text - l.reader.at
