use Rattle.message.proofs.WriterLaws.{kind_of, head_put}
use mathlib.Core.Path.{◌≡◌, sym, ap, ◌∙◌}
use Rattle.message.proofs.writer.put_head.Goals.{in-Log, in-Proposal}
use Rattle.message.proofs.writer.put_head.Goals as goal

pub returns : goal.returns
returns c =
    let kind : c.match-message.kind ≡ kind_of c.args.message = elim c.match-message.branch [
      | in-Log w ↦ w.kind-is ∙ sym (ap kind_of w.in-Log.is)
      | in-Proposal w ↦ w.kind-is ∙ sym (ap kind_of w.in-Proposal.is)
    ] in
    head_put c.args.message _ _ _ _ _ _ c.requires c.head_of-head.ensures kind c.copy_from_slice.ensures.after c.write_at.ensures c.write_at-2.ensures
