use Rattle.sr_outside.proofs.Places.{bytes_of-push, name_at-push}
use Rattle.sr_outside.proofs.named.push_file.Goals as goal

pub returns-clause-bytes : goal.returns-clause-bytes
returns-clause-bytes c =
    rw c.in_ok-push.ensures.items (λ name. bytes_of-push c.args.files.now.items c.args.file name c.requires)

pub returns-clause-names : goal.returns-clause-names
returns-clause-names c =
    rw c.in_ok-push.ensures.items (λ i within. name_at-push c.args.files.now.items c.args.file i within)
