use Rattle.std.proofs.Common.{◌∷◌, sym, ap}
use Rattle.httparse.specs.declared.spans.HeaderSpan.{HeaderSpan}
use Rattle.nb_responses.specs.Heads.{framing_by}
use Rattle.nb_httpmsg.specs.HeadInfos.{body_kind}
use Rattle.nb_httpmsg.proofs.field.encoding_of.Goals as goal

pub returns-in-Some : goal.returns-in-Some
returns-in-Some c = λ lengths.
    let d : HeaderSpan = record { name = record { start = 0; end = 0 }; value = record { start = 0; end = 0 } } in
    sym (ap (λ vs. body_kind (framing_by (c.args.first.now ∷ vs) lengths)) (c.in-Some.ensures.1 d))
