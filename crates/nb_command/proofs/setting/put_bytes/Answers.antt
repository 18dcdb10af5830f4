use Rattle.std.proofs.lemmas.Result.{err_from_is_err_and}
use Rattle.nb_settings.specs.Keys.{key_of}
use Rattle.nb_settings.specs.Names.{name_of}
use Rattle.nb_command.specs.Settings.{named_block}
use Rattle.nb_command.proofs.PutLemmas.{put_done, put_refused}
use Rattle.nb_command.proofs.setting.put_bytes.Goals as goal

pub returns-in_err-put-clause-cause : goal.returns-in_err-put-clause-cause
returns-in_err-put-clause-cause c =
    let refused = put_refused (named_block (name_of c.args.name.now)) c.block_of.result.now (key_of c.args.name.now.key) c.args.kind c.args.bytes.now c.args.table.now c.block_of.ensures
    c.in_err-put.field-0.0 c.in_err-put.ensures.cause in
    let p = err_from_is_err_and c.from_residual.result c.from_residual.ensures.1 in
    rw (p.1, p.2) refused

pub returns-clause-ok : goal.returns-clause-ok
returns-clause-ok c =
    put_done (named_block (name_of c.args.name.now)) c.block_of.result.now (key_of c.args.name.now.key) c.args.kind c.args.bytes.now c.args.table.now c.block_of.ensures
    c.put.new.self c.in_ok-put.ensures.fits c.in_ok-put.ensures.ok
