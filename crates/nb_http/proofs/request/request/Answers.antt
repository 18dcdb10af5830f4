use Rattle.std.proofs.Common.{◌≡◌, ◌++◌, ◌∙◌, List, ℕ, ap, codes, subst, sym, arith}
use Rattle.nb_responses.specs.Requests.{port_text, IsOneRequest}
use Rattle.nb_responses.proofs.RequestLaws.{one_request}
use Rattle.nb_http.proofs.request.request.Goals as goal

pub returns-clause-text : goal.returns-clause-text
returns-clause-text c =
    let path : List ℕ = c.args.target.now.path in
    let host : List ℕ = c.args.target.now.host in
    let one : c.extend_from_slice.new.self.items ≡ codes "GET " ++ path = c.in_ok-extend_from_slice.ensures.items ∙ ap (λ (t : List ℕ). c.in_ok-text.text.items ++ t) c.as_slice.ensures ∙ ap (λ (t : List ℕ). t ++ path) c.in_ok-text.ensures.items in
    let two : c.extend_from_slice-2.new.self.items ≡ codes "GET " ++ path ++ codes " HTTP/1.1\r\nHost: " = c.in_ok-extend_from_slice-2.ensures.items ∙ ap (λ (t : List ℕ). t ++ codes " HTTP/1.1\r\nHost: ") one in
    let three : c.extend_from_slice-3.new.self.items ≡ codes "GET " ++ path ++ codes " HTTP/1.1\r\nHost: " ++ host = c.in_ok-extend_from_slice-3.ensures.items ∙ ap (λ (t : List ℕ). c.extend_from_slice-2.new.self.items ++ t) c.as_slice-2.ensures ∙ ap (λ (t : List ℕ). t ++ host) two in
    let four : c.extend_from_slice-4.new.self.items ≡ codes "GET " ++ path ++ codes " HTTP/1.1\r\nHost: " ++ host ++ port_text c.args.target.now.port = c.in_ok-extend_from_slice-4.ensures.items ∙ ap (λ (t : List ℕ). c.extend_from_slice-3.new.self.items ++ t) (c.as_slice-3.ensures.value ∙ c.in_ok-port.ensures) ∙ ap (λ (t : List ℕ). t ++ port_text c.args.target.now.port) three in
    c.from_vec.ensures ∙ c.in_ok-extend_from_slice-5.ensures.items ∙ ap (λ (t : List ℕ). t ++ codes "\r\nUser-Agent: netboot\r\nConnection: close\r\n\r\n") four

pub returns-clause-single : goal.returns-clause-single
returns-clause-single c = λ sendable.
    subst (IsOneRequest c.args.target.now.host c.args.target.now.port c.args.target.now.path) (sym (returns-clause-text c))
    (one_request c.args.target.now.host c.args.target.now.path c.args.target.now.port (omega arith) sendable)
