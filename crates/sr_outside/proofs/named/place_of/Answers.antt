use Rattle.sr_outside.proofs.Places.{place_first, not_placed, found_bytes, found_name}
use Rattle.sr_outside.proofs.named.place_of.Goals as goal

pub returns-clause-first : goal.returns-clause-first
returns-clause-first c = place_first c.args.files.now c.args.name.now _ c.position_of.ensures

pub returns-clause-not_held : goal.returns-clause-not_held
returns-clause-not_held c = not_placed c.args.files.now c.args.name.now _ c.position_of.ensures

pub returns-clause-name : goal.returns-clause-name
returns-clause-name c =
    found_name c.args.files.now c.args.name.now _ (place_first c.args.files.now c.args.name.now _ c.position_of.ensures)

pub returns-clause-bytes : goal.returns-clause-bytes
returns-clause-bytes c =
    found_bytes c.args.files.now c.args.name.now _ (place_first c.args.files.now c.args.name.now _ c.position_of.ensures)
