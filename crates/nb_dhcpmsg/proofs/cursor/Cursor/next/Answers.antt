use Rattle.std.proofs.Common.{◌≡◌, ◌∙◌, ap}
use Rattle.nb_dhcpmsg.specs.declared.cursor.Cursor.{Cursor}
use Rattle.nb_dhcpmsg.proofs.LeftLemmas.{Shifted, before_shift, taken_next}
use Rattle.nb_dhcpmsg.proofs.cursor.Cursor.next.Goals as goal

pub returns-in_default-take : goal.returns-in_default-take
returns-in_default-take c =
    let same : c.take.new.self ≡ c.args.self.now = c.in-End.ensures.1 in
    let m : Shifted c.args.self.now c.shift.new.self = record {
      none = c.in-End.ensures.0;
      field = c.shift.ensures.field ∙ ap (λ (x : Cursor). x.second.now) same;
      second = c.shift.ensures.second ∙ ap (λ (x : Cursor). x.third.now) same;
      third = c.shift.ensures.third;
    } in
    before_shift c.args.self.now c.shift.new.self c.take-2.new.self c.take-2.result m
    (taken_next c.shift.new.self c.take-2.new.self c.take-2.result c.take-2.ensures (λ end. absurd (c.in_default-take.not-End end)))

pub returns : goal.returns
returns c =
    let same : c.take.new.self ≡ c.args.self.now = c.in-End.ensures.1 in
    let m : Shifted c.args.self.now c.shift.new.self = record {
      none = c.in-End.ensures.0;
      field = c.shift.ensures.field ∙ ap (λ (x : Cursor). x.second.now) same;
      second = c.shift.ensures.second ∙ ap (λ (x : Cursor). x.third.now) same;
      third = c.shift.ensures.third;
    } in
    let same2 : c.take-2.new.self ≡ c.shift.new.self = c.in-End-take.ensures.1 in
    let third : c.shift-2.new.self.second.now ≡ c.shift.new.self.third.now = c.shift-2.ensures.second ∙ ap (λ (x : Cursor). x.third.now) same2 in
    let m2 : Shifted c.shift.new.self c.shift-2.new.self = record {
      none = c.in-End-take.ensures.0;
      field = c.shift-2.ensures.field ∙ ap (λ (x : Cursor). x.second.now) same2;
      second = third;
      third = c.shift-2.ensures.third;
    } in
    before_shift c.args.self.now c.shift.new.self c.take-3.new.self c.take-3.result m
    (before_shift c.shift.new.self c.shift-2.new.self c.take-3.new.self c.take-3.result m2
    (taken_next c.shift-2.new.self c.take-3.new.self c.take-3.result c.take-3.ensures (λ end. (third ∙ c.shift.ensures.third, c.shift-2.ensures.third))))
