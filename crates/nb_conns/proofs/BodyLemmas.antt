-- Where a segment's body stands in its message.
use Rattle.std.proofs.Common.{◌≡◌, ℕ, ◌-◌, ◌+◌, ◌≤◌, List, ◌++◌, length, take, drop, length-append, append_assoc, ap, sym, ◌∙◌, subst, arith}
use Rattle.std.proofs.Math.Seq.{drop-append_seam, take-length}
use Rattle.nb_graph.specs.Trace.{bytes_between}
use Rattle.nb_tcpseg.specs.SegmentText.{SegmentParts, IsLaidOut, tcp_header}

-- the last bytes of a list
last_between : (xs ys : List ℕ) → bytes_between (xs ++ ys) (length (xs ++ ys) - length ys) (length (xs ++ ys)) ≡ ys
last_between xs ys =
    let front : length (xs ++ ys) - length ys ≡ length xs = omega (arith, length-append xs ys) in
    let back : length (xs ++ ys) - length xs ≡ length ys = omega (arith, length-append xs ys) in
    ap (λ n. take (length (xs ++ ys) - n) (drop n (xs ++ ys))) front ∙ ap (λ z. take (length (xs ++ ys) - length xs) z) (drop-append_seam xs ys) ∙ ap (λ n. take n ys) back ∙ take-length ys

-- a message ends with its segment's body
ends_with : (bytes : List ℕ) (s : SegmentParts) (is : IsLaidOut bytes s) → bytes ≡ (tcp_header s is.offset is.sum is.urgent ++ is.options) ++ s.body
ends_with bytes s is = is.spelled ∙ sym (append_assoc (tcp_header s is.offset is.sum is.urgent) is.options s.body)

pub body_between : (bytes : List ℕ) (s : SegmentParts) → IsLaidOut bytes s → bytes_between bytes (length bytes - length s.body) (length bytes) ≡ s.body
body_between bytes s is =
    subst (λ z. bytes_between z (length z - length s.body) (length z) ≡ s.body) (sym (ends_with bytes s is)) (last_between (tcp_header s is.offset is.sum is.urgent ++ is.options) s.body)

-- the body isn't longer than the message
pub body_within : (bytes : List ℕ) (s : SegmentParts) → IsLaidOut bytes s → length s.body ≤ length bytes
body_within bytes s is =
    let all : length bytes ≡ length (tcp_header s is.offset is.sum is.urgent ++ is.options) + length s.body = ap length (ends_with bytes s is) ∙ length-append (tcp_header s is.offset is.sum is.urgent ++ is.options) s.body in
    omega (arith, all)
