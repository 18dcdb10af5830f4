use Rattle.std.proofs.Common.{◌≡◌, ◌∙◌, ◌*◌, ℕ, true, Option, sym, ap, subst}
use Rattle.nb_iscsipdu.specs.declared.command.Command.TheVariants.{Read}
use Rattle.nb_iscsipdu.specs.PduTexts.{pdu_text}
use Rattle.nb_disk.specs.declared.work.Work.TheVariants.{Idle, Reading}
use Rattle.nb_disk.specs.Histories.{reading}
use Rattle.nb_disk.specs.Steps.{KeptNumbers, kept_of, work_capacity, has_work, next_command, kept_putting}
use Rattle.nb_disk.specs.DiskStands.{is_out_of}
use Rattle.nb_disk.proofs.StandsLemmas.{refused-busy, read-free, refused-memory, asked-answers}
use Rattle.nb_disk.proofs.disk.Disk.read.Goals as goal

pub returns-in_err-text-in-Idle-clause-refused : goal.returns-in_err-text-in-Idle-clause-refused
returns-in_err-text-in-Idle-clause-refused c = λ o calls stands.
    let k = c.args.self.now in
    let out : c.is_out.result ≡ is_out_of (work_capacity k.work) c.args.lba c.args.n =
    c.is_out.ensures ∙ ap (λ (x : Option ℕ). is_out_of x c.args.lba c.args.n) (c.capacity.ensures ∙ ap (λ (x : KeptNumbers). work_capacity x.work) c.self.view_is) in
    let idle : k.work ≡ Idle c.in-Idle.capacity = cc in
    refused-memory (reading o calls) c.args.lba c.args.n c.from_residual.result c.from_residual.ensures.1
    (read-free o calls k c.args.lba c.args.n c.in-Idle.capacity c.is_out.result stands out c.if-is_out.false idle)

pub returns-in_ok-text-in-Idle-clause-stands : goal.returns-in_ok-text-in-Idle-clause-stands
returns-in_ok-text-in-Idle-clause-stands c = λ o calls stands.
    let k = c.args.self.now in
    let idle : k.work ≡ Idle c.in-Idle.capacity = cc in
    let view : kept_of c.self.inside.state ≡ k = c.self.view_is in
    let text : c.in_ok-text-in-Idle.text ≡ pdu_text (next_command k k.exp_stat_sn (Read c.args.lba c.args.n)) =
    subst (λ (x : KeptNumbers). c.in_ok-text-in-Idle.text ≡ pdu_text (next_command x x.exp_stat_sn (Read c.args.lba c.args.n))) view c.in_ok-text-in-Idle.ensures.text in
    let kept : kept_of c.put.new.self ≡ kept_putting k k.exp_stat_sn (Reading c.in-Idle.capacity (512 * c.args.n) 0) =
    subst (λ (x : KeptNumbers). kept_of c.put.new.self ≡ kept_putting x x.exp_stat_sn (Reading c.in-Idle.capacity (512 * c.args.n) 0)) view c.in_ok-text-in-Idle.ensures.ok in
    asked-answers k (kept_of c.put.new.self) c.in-Idle.capacity c.args.lba c.args.n c.in_ok-text-in-Idle.text idle text kept o calls stands

pub returns-in_ok-text-in-Idle-clause-refused : goal.returns-in_ok-text-in-Idle-clause-refused
returns-in_ok-text-in-Idle-clause-refused c = λ o calls stands.
    let k = c.args.self.now in
    let out : c.is_out.result ≡ is_out_of (work_capacity k.work) c.args.lba c.args.n =
    c.is_out.ensures ∙ ap (λ (x : Option ℕ). is_out_of x c.args.lba c.args.n) (c.capacity.ensures ∙ ap (λ (x : KeptNumbers). work_capacity x.work) c.self.view_is) in
    let idle : k.work ≡ Idle c.in-Idle.capacity = cc in
    read-free o calls k c.args.lba c.args.n c.in-Idle.capacity c.is_out.result stands out c.if-is_out.false idle

pub returns-in-Testing-clause-refused : goal.returns-in-Testing-clause-refused
returns-in-Testing-clause-refused c = λ o calls stands.
    let k = c.args.self.now in
    let out : c.is_out.result ≡ is_out_of (work_capacity k.work) c.args.lba c.args.n =
    c.is_out.ensures ∙ ap (λ (x : Option ℕ). is_out_of x c.args.lba c.args.n) (c.capacity.ensures ∙ ap (λ (x : KeptNumbers). work_capacity x.work) c.self.view_is) in
    let busy : has_work k.work ≡ true = ap (λ (x : KeptNumbers). has_work x.work) (sym c.self.view_is) ∙ ap has_work c.in-Testing.is in
    refused-busy o calls k c.args.lba c.args.n c.is_out.result stands c.requires.live out c.if-is_out.false busy

pub returns-in-Sizing-clause-refused : goal.returns-in-Sizing-clause-refused
returns-in-Sizing-clause-refused c = λ o calls stands.
    let k = c.args.self.now in
    let out : c.is_out.result ≡ is_out_of (work_capacity k.work) c.args.lba c.args.n =
    c.is_out.ensures ∙ ap (λ (x : Option ℕ). is_out_of x c.args.lba c.args.n) (c.capacity.ensures ∙ ap (λ (x : KeptNumbers). work_capacity x.work) c.self.view_is) in
    let busy : has_work k.work ≡ true = ap (λ (x : KeptNumbers). has_work x.work) (sym c.self.view_is) ∙ ap has_work c.in-Sizing.is in
    refused-busy o calls k c.args.lba c.args.n c.is_out.result stands c.requires.live out c.if-is_out.false busy

pub returns-in-Reading-clause-refused : goal.returns-in-Reading-clause-refused
returns-in-Reading-clause-refused c = λ o calls stands.
    let k = c.args.self.now in
    let out : c.is_out.result ≡ is_out_of (work_capacity k.work) c.args.lba c.args.n =
    c.is_out.ensures ∙ ap (λ (x : Option ℕ). is_out_of x c.args.lba c.args.n) (c.capacity.ensures ∙ ap (λ (x : KeptNumbers). work_capacity x.work) c.self.view_is) in
    let busy : has_work k.work ≡ true = ap (λ (x : KeptNumbers). has_work x.work) (sym c.self.view_is) ∙ ap has_work c.in-Reading.is in
    refused-busy o calls k c.args.lba c.args.n c.is_out.result stands c.requires.live out c.if-is_out.false busy
