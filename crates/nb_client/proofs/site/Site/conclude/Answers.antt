use Rattle.std.proofs.Common.{◌≡◌, None, refl, ap, subst}
use Rattle.nb_network.specs.declared.over.HasEnded.{HasEnded}
use Rattle.nb_client.specs.Serving.{ConcludesEnd, answer_over}
use Rattle.nb_client.specs.Soundness.{IsBacked, snapshot_at}
use Rattle.nb_client.proofs.DriveConcludes.{ended_concludes}
use Rattle.nb_client.proofs.Results.{if_ok}
use Rattle.nb_client.proofs.site.Site.conclude.Goals as goal

pub returns-in-File-End : goal.returns-in-File-End
returns-in-File-End c =
    let p = c.args.pending in
    let asks = c.in-File-End.is-0 in
    let none : p.waits ≡ None = subst (λ a. IsBacked a p.waits) asks c.requires.well.asked.backed in
    rw c.in-File-End.is-1 (if_ok c.take_file.result (λ st k.
    ended_concludes p c.in-File-End.ended (λ o. ap (λ a. answer_over a o) asks)
    (subst (λ (e : HasEnded). ConcludesEnd p e c.args.script c.args.self.now (snapshot_at c.take_file.new.self st) c.args.out.now c.take_file.new.out) c.into_inner.ensures (k p asks none)))
    c.take_file.ensures)

pub returns-in-Query-End : goal.returns-in-Query-End
returns-in-Query-End c =
    let p = c.args.pending in
    let asks = c.in-Query-End.is-0 in
    rw c.in-Query-End.is-1 (if_ok c.take_found.result (λ st k.
    ended_concludes p c.in-Query-End.ended (λ o. ap (λ a. answer_over a o) asks)
    (subst (λ (e : HasEnded). ConcludesEnd p e c.args.script c.args.self.now (snapshot_at c.take_found.new.self st) c.args.out.now c.take_found.new.out) c.into_inner-in-Query-End.ensures (k p asks refl)))
    c.take_found.ensures)

pub returns-in-Disk-default : goal.returns-in-Disk-default
returns-in-Disk-default c =
    let p = c.args.pending in
    let asks = c.in-Disk-default.is-0 in
    let none : p.waits ≡ None = subst (λ a. IsBacked a p.waits) asks c.requires.well.asked.backed in
    if_ok c.take_drive.result (λ st k. k p asks refl none) c.take_drive.ensures

pub returns-in-Block-default : goal.returns-in-Block-default
returns-in-Block-default c =
    let p = c.args.pending in
    let asks = c.in-Block-default.is-0 in
    let none : p.waits ≡ None = subst (λ a. IsBacked a p.waits) asks c.requires.well.asked.backed in
    if_ok c.take_block.result (λ st k. k p asks refl none) c.take_block.ensures
