use Rattle.sr_outside.proofs.Places.{bytes_of-set, name_at-set}
use Rattle.sr_outside.proofs.named.replace_file.Goals as goal

pub returns-clause-bytes : goal.returns-clause-bytes
returns-clause-bytes c =
    λ name. bytes_of-set c.args.files.now c.args.file c.args.place name c.requires.first

pub returns-clause-names : goal.returns-clause-names
returns-clause-names c =
    λ i. name_at-set c.args.files.now c.args.file c.args.place i c.requires.first
