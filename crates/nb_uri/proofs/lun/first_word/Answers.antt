use Rattle.std.proofs.Common.{◌∙◌, ap, sym, []}
use Rattle.std.specs.List.{slice_split}
use Rattle.nb_uri.specs.IscsiNames.{is_hyphen}
use Rattle.nb_uri.proofs.IscsiLemmas.{more_words, words-cut, words-whole}
use Rattle.nb_uri.proofs.lun.first_word.Goals as goal

pub returns-in_err-lun_word-in-Some : goal.returns-in_err-lun_word-in-Some
returns-in_err-lun_word-in-Some c = λ count. rw c.from_residual.ensures (words-cut count c.args.text.now c.in-Some.group.now c.in-Some.rest.now c.in-Some.ensures ∙ ap (more_words count (slice_split is_hyphen c.in-Some.rest.now)) (sym c.in_err-lun_word-in-Some.ensures))

pub returns-in_err-lun_word-in-None : goal.returns-in_err-lun_word-in-None
returns-in_err-lun_word-in-None c = λ count. rw c.from_residual-in_err-lun_word-in-None.ensures (words-whole count c.args.text.now c.in-None.ensures ∙ ap (more_words count []) (sym c.in_err-lun_word-in-None.ensures))

pub returns-in_ok-lun_word-in-Some : goal.returns-in_ok-lun_word-in-Some
returns-in_ok-lun_word-in-Some c = λ count. words-cut count c.args.text.now c.in-Some.group.now c.in-Some.rest.now c.in-Some.ensures ∙ ap (more_words count (slice_split is_hyphen c.in-Some.rest.now)) (sym c.in_ok-lun_word-in-Some.ensures)

pub returns-in_ok-lun_word-in-None : goal.returns-in_ok-lun_word-in-None
returns-in_ok-lun_word-in-None c = λ count. words-whole count c.args.text.now c.in-None.ensures ∙ ap (more_words count []) (sym c.in_ok-lun_word-in-None.ensures)
