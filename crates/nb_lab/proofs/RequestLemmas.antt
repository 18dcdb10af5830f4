-- A whole request that is read has no more fields than there is room for.
use Rattle.std.proofs.Common.{◌≡◌, ℕ, ◌<◌, ◌≤◌, min, List, length, map, take, drop, sym, ap, ◌∙◌, subst, arith}
use Rattle.std.proofs.lemmas.List.{length-map, length-take}
use Rattle.httparse.specs.declared.spans.HeaderSpan.{HeaderSpan}
use Rattle.httparse.specs.declared.spans.RequestSpans.{RequestSpans}
use Rattle.httparse.specs.Grammar.{RequestHead, ReadsRequest}
use Rattle.httparse.specs.Spans.{IsRequestOf, header_bytes, name_and_value}
use Rattle.httparse.proofs.GrammarLemmas.{request_unique}

pub fields_fit : (bytes : List ℕ) (headers : List HeaderSpan) (spans : RequestSpans) (head : RequestHead) (rest : List ℕ) → IsRequestOf bytes headers spans → ReadsRequest bytes head rest → length head.fields ≤ length headers
fields_fit bytes headers spans head rest is reads =
    let same : is.0 ≡ head = (request_unique bytes is.0 head (drop spans.len bytes) rest is.1.reads reads).0 in
    let few : length is.0.fields ≤ length headers =
    omega (arith, ap length is.1.fields, length-map (take spans.headers headers) (header_bytes bytes), length-map is.0.fields name_and_value, length-take spans.headers headers) in
    subst (λ (h : RequestHead). length h.fields ≤ length headers) same few
