-- `details::file_settings` meets its contract.
use mathlib.Core.Path.{ap, ap₂, subst, ◌∙◌}
use lib.ListN.{take}
use Rattle.state.specs.State.{size_of, rules_of}
use Rattle.replies.specs.Answer.{Gives, accepted}
use Rattle.details.specs.Details.{settings_reply, file_settings}
use Rattle.details.proofs.Replies.{settings_given}
use Rattle.details.proofs.file_settings.Goals as goal

pub returns : goal.returns
unfolding file_settings rules_of
returns c =
    let a = c.args in
    let f = a.tag.files in
    subst (λ d. Gives (accepted a.tag a.mode d) c.accept.result)
    (ap (take 256) (c.settings_reply.ensures ∙ ap₂ settings_reply c.string_in-settings.ensures c.file_size.ensures)
    ∙ settings_given f.rules f.lens a.n (size_of a.n))
    c.accept.ensures
