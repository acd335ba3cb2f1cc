use Rattle.tower_file.proofs.Alone.{is_tower}
use Rattle.tower_file.proofs.laws.text_of_one_register.Goals as goal

pub returns : goal.returns
returns c = is_tower
