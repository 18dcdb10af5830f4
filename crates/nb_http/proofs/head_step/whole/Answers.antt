use Rattle.std.proofs.Common.{sym, ◌∙◌}
use Rattle.nb_http.proofs.HeadLemmas.{interim_goes, final_goes, interim_by}
use Rattle.nb_http.proofs.head_step.whole.Goals as goal

pub returns-then-is_interim : goal.returns-then-is_interim
returns-then-is_interim c = λ block h is e. interim_goes c.args.rec block h c.args.info.now is e (interim_by block h c.args.info.now is ∙ sym c.is_interim.ensures ∙ c.if-is_interim.true)

pub returns : goal.returns
returns c = λ block h is e.
    final_goes c.args.rec block c.args.info.now.len c.after_head-next.result.state c.after_head-next.result.over is.len
    (c.after_head-next.ensures block h (record { known = is; is_block = e; final = interim_by block h c.args.info.now is ∙ sym c.is_interim.ensures ∙ c.if-is_interim.false }))
