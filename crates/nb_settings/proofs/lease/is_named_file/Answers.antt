use Rattle.std.proofs.Common.{◌≡◌, ◌∙◌, ap, not, List, ℕ, length}
use Rattle.std.specs.Prelude.{◌==◌}
use Rattle.nb_dhcpmsg.specs.Fields.{file_name}
use Rattle.nb_dhcpmsg.specs.Views.{parts_of}
use Rattle.nb_settings.proofs.lease.is_named_file.Goals as goal

pub returns-then-tag-eq-FILE : goal.returns-then-tag-eq-FILE
returns-then-tag-eq-FILE c =
    let name : c.file.result.now ≡ file_name c.args.message.now.whole.now = c.file.ensures (parts_of c.args.message.now) c.requires in
    let some : not c.is_empty.result ≡ not (length (file_name c.args.message.now.whole.now) == 0) =
    ap not (c.is_empty.ensures ∙ ap (λ (bytes : List ℕ). length bytes == 0) name) in
    rw c.if-tag-eq-FILE.true some
