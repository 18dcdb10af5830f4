use Rattle.std.proofs.lemmas.Str.{is_utf8-from_IsUtf8}
use Rattle.nb_uri.specs.IscsiNames.{is_iscsi}
use Rattle.nb_uri.proofs.ResolutionLemmas.{resolution-iscsi, resolution-url, after-some}
use Rattle.nb_uri.proofs.SelfLemmas.{disk-reliable}
use Rattle.nb_uri.proofs.resolution.resolve_text.Goals as goal

pub returns-in-Some-clause-reliable : goal.returns-in-Some-clause-reliable
returns-in-Some-clause-reliable c =
    let found = after-some (is_iscsi c.args.text.now) c.args.text.now c.in-Some.name.now c.in-Some.ensures in
    disk-reliable c.args.text.now c.disk_target.result (is_utf8-from_IsUtf8 c.args.text.now c.utf8.text) found.0 (rw found.1 at c.disk_target.ensures)

pub returns-in-Some-clause-answer : goal.returns-in-Some-clause-answer
returns-in-Some-clause-answer c = rw (resolution-iscsi _ c.args.text.now c.in-Some.name.now c.utf8.text c.in-Some.ensures) c.disk_target.ensures

pub returns-in-None-clause-answer : goal.returns-in-None-clause-answer
returns-in-None-clause-answer c = rw (resolution-url _ c.args.text.now c.utf8.text c.in-None.ensures) c.url_target.ensures.answer
