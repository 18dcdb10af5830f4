use Rattle.std.proofs.Common.{◌≡◌, ℕ, List, [], ◌∙◌, subst}
use Rattle.std.specs.Prelude.{unwrap_or}
use Rattle.nb_machine.specs.Conclusions.{conclusion}
use Rattle.nb_runner.specs.ImageDeeds.{IsConcludedWell, conclusion_of}
use Rattle.nb_client.specs.Soundness.{snapshot_at}
use Rattle.nb_client.proofs.Conclude.{file_concludes}
use Rattle.nb_client.proofs.Results.{if_ok}
use Rattle.nb_client.proofs.site.Site.take_body.Goals as goal

pub returns : goal.returns
returns c =
    let now = c.args.self.now in
    let s = c.args.script in
    let e = c.args.ended in
    let wanted = c.args.wanted.now in
    let before = now.world.state.images in
    let images = c.conclude.new.images in
    let what = c.in_ok-conclusion.conclusion in
    let depth : c.from-depth.result ≡ s.depth = c.from-depth.ensures ∙ c.depth.ensures in
    let same : conclusion e.cause wanted.asking (unwrap_or e.body []) s.depth before ≡ conclusion_of what images =
    subst (λ (n : ℕ). conclusion e.cause wanted.asking (unwrap_or e.body []) n before ≡ conclusion_of what images) depth
    (subst (λ (b : List ℕ). conclusion e.cause wanted.asking b c.from-depth.result before ≡ conclusion_of what images) c.file_of-body.ensures c.in_ok-conclusion.ensures.same) in
    let well : IsConcludedWell what s.depth before images = subst (λ (n : ℕ). IsConcludedWell what n before images) depth c.in_ok-conclusion.ensures.well in
    if_ok c.lead.result (λ st l p asks none. file_concludes now s wanted p e images asks none what (snapshot_at c.lead.new.self st) c.args.out.now c.lead.new.out c.requires.stays same well l) c.lead.ensures
