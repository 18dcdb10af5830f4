use Rattle.std.proofs.Common.{◌≡◌, ◌+◌, ◌<◌, ◌≤◌, ◌^◌, length, true, false, is_some, refl, sym, ap, ◌∙◌, arith}
use Rattle.std.proofs.lemmas.Bool.{true≢false}
use Rattle.nb_lab.proofs.ReadingLemmas.{front, front_len, front_record, front_rest, no_value, read_whole, same_seen, take_rest}
use Rattle.nb_wire.proofs.BytesLaws.{IsBytes}
use Rattle.nb_lab.proofs.shown.Shown.read_record.Goals as goal

pub returns-in_err-len-clause-first : goal.returns-in_err-len-clause-first
returns-in_err-len-clause-first c = λ kind body rest short is.
    let f = front c.args.records.now kind body rest short is in
    let same = ap length c.new-view.ensures.bytes in
    absurd (true≢false (sym (c.in_err-len.ensures.enough.1 (omega (arith, f.long, same, c.new-view.ensures.start)))))

pub returns-in_err-record-clause-first : goal.returns-in_err-record-clause-first
returns-in_err-record-clause-first c = λ kind body rest short is.
    let records = c.args.records.now in
    let f = front records kind body rest short is in
    let same = c.in_ok-len.ensures.same ∙ c.new-view.ensures.bytes in
    let start = c.new-view.ensures.start in
    let len =
    front_len records c.new-view.result.bytes.now kind body rest f c.new-view.ensures.bytes c.new-view.result.at c.in_ok-len.field-0 start c.in_ok-len.ensures.value in
    let fits : c.u32.new.self.at + c.in_ok-len.field-0 ≤ length c.u32.new.self.bytes.now =
    omega (arith, f.long, ap length same, len, c.in_ok-len.ensures.read, start) in
    absurd (true≢false (sym (c.in_err-record.ensures.enough.1 fits)))

pub returns-in_err-kind-clause-first : goal.returns-in_err-kind-clause-first
returns-in_err-kind-clause-first c = λ kind body rest short is.
    let records = c.args.records.now in
    let f = front records kind body rest short is in
    let same = c.in_ok-len.ensures.same ∙ c.new-view.ensures.bytes in
    let start = c.new-view.ensures.start in
    let len =
    front_len records c.new-view.result.bytes.now kind body rest f c.new-view.ensures.bytes c.new-view.result.at c.in_ok-len.field-0 start c.in_ok-len.ensures.value in
    let at : c.u32.new.self.at ≡ 4 = omega (arith, c.in_ok-len.ensures.read, start) in
    let entry =
    front_record records c.u32.new.self.bytes.now kind body rest f same c.u32.new.self.at c.in_ok-len.field-0 c.in_ok-record.record.now at len c.in_ok-record.ensures.part in
    let none : ⊥ = omega (arith, c.in_err-kind.ensures.cases, ap length entry) in
    absurd none

pub returns-clause-first : goal.returns-clause-first
returns-clause-first c = λ kind body rest short is.
    let records = c.args.records.now in
    let f = front records kind body rest short is in
    let same = c.in_ok-len.ensures.same ∙ c.new-view.ensures.bytes in
    let start = c.new-view.ensures.start in
    let len =
    front_len records c.new-view.result.bytes.now kind body rest f c.new-view.ensures.bytes c.new-view.result.at c.in_ok-len.field-0 start c.in_ok-len.ensures.value in
    let at : c.u32.new.self.at ≡ 4 = omega (arith, c.in_ok-len.ensures.read, start) in
    let entry =
    front_record records c.u32.new.self.bytes.now kind body rest f same c.u32.new.self.at c.in_ok-len.field-0 c.in_ok-record.record.now at len c.in_ok-record.ensures.part in
    let end : c.take.new.self.at ≡ 4 + (length body + 1) = omega (arith, c.in_ok-record.ensures.read, at, len) in (
      c.of.ensures ∙ same_seen c.in_ok-kind.kind.now kind c.in_ok-kind.body.now body (sym c.in_ok-kind.ensures.cases.0 ∙ entry),
      take_rest c.take.new.self.at records ∙ front_rest records c.u32.new.self.bytes.now kind body rest f same c.take.new.self.at end,
    )

pub returns-in_err-len-clause-none : goal.returns-in_err-len-clause-none
returns-in_err-len-clause-none c =
    let none = c.from_residual.ensures in
    (λ _ b. no_value _ _ none (returns-in_err-len-clause-first c b.kind b.body b.rest b.short b.spelled), λ _. ap is_some none)

pub returns-in_err-record-clause-none : goal.returns-in_err-record-clause-none
returns-in_err-record-clause-none c =
    let none = c.from_residual-in_err-record.ensures in
    (λ _ b. no_value _ _ none (returns-in_err-record-clause-first c b.kind b.body b.rest b.short b.spelled), λ _. ap is_some none)

pub returns-in_err-kind-clause-none : goal.returns-in_err-kind-clause-none
returns-in_err-kind-clause-none c =
    let none = c.from_residual-in_err-kind.ensures in
    (λ _ b. no_value _ _ none (returns-in_err-kind-clause-first c b.kind b.body b.rest b.short b.spelled), λ _. ap is_some none)

pub returns-clause-none : goal.returns-clause-none
returns-clause-none c =
    let same = c.in_ok-len.ensures.same ∙ c.new-view.ensures.bytes in
    let start = c.new-view.ensures.start in
    let at : c.u32.new.self.at ≡ 4 = omega (arith, c.in_ok-len.ensures.read, start) in
    let fits : IsBytes c.args.records.now = λ i. omega (arith, c.type_inv.records i) in
    let len = c.in_ok-len.field-0 in
    let stands =
    read_whole c.args.records.now c.new-view.result.bytes.now c.u32.new.self.bytes.now c.in_ok-record.record.now c.in_ok-kind.body.now c.new-view.result.at c.u32.new.self.at len c.in_ok-kind.kind.now fits c.new-view.ensures.bytes same start at c.in_ok-len.ensures.value (c.in_ok-record.ensures.enough.0 refl) c.in_ok-record.ensures.part c.in_ok-kind.ensures.cases.0 in
    (λ none. absurd (true≢false none), λ no. absurd (no stands))
