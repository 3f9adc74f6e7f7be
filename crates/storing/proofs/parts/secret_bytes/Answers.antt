-- `storing::parts::secret_bytes` meets its contract.
use mathlib.Core.Path.{refl, ap, ◌∙◌}
use lib.ListN.{replicate}
use borrow.Author.Rules.{rules}
use Rattle.base.specs.Bytes.{laid}
use Rattle.image.proofs.Pieces.{laid_all}
use Rattle.image.proofs.Shapes.{SecretsShaped, secret_widths}
use Rattle.image.specs.Image.{secret_pieces}
use Rattle.storing.proofs.parts.secret_bytes.Goals as goal

pub returns : goal.returns
returns c =
    let k = c.args.k in
    let h : SecretsShaped k = record { keys = search rules; versions = search rules } in
    (c.put-2.ensures ∙ ap (λ s. laid k.versions 80 s) c.put.ensures)
    ∙ laid_all _ (secret_pieces k) (replicate 85 0) (secret_widths k h) refl
