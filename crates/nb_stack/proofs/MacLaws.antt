-- Hardware addresses by the numbers that their bytes are.
use Rattle.std.proofs.Common.{◌≡◌, ℕ, ◌+◌, ◌*◌, ◌≤◌, ◌⊎◌, Bool, true, Option, Some, None, List, ◌++◌, length, get_or, take, subst, ap, ◌∙◌, append_assoc, arith}
use Rattle.std.specs.Int.{w16, to_be_bytes}
use Rattle.std.proofs.lemmas.List.{take_at, length-append}
use Rattle.nb_ether.specs.Frame.{Frame, IsFrame, frame_of}
use Rattle.nb_ether.specs.declared.frame.EtherFrame.{EtherFrame}
use Rattle.std.specs.Prelude.{IfSome}
use Rattle.nb_wire.specs.declared.address.Mac.{Mac}
use Rattle.nb_stack.specs.Owns.{everyone}
use Rattle.nb_stack.specs.Brings.{IsFrameFor}
use Rattle.nb_wire.proofs.BytesLaws.{IsBytes, six}

-- six bytes are those whose first four and last two are the same numbers
pub six_same : (xs ys : List ℕ) → length xs ≡ 6 → length ys ≡ 6 → IsBytes xs → IsBytes ys → 16777216 * get_or xs 0 0 + 65536 * get_or xs 1 0 + 256 * get_or xs 2 0 + get_or xs 3 0 ≡ 16777216 * get_or ys 0 0 + 65536 * get_or ys 1 0 + 256 * get_or ys 2 0 + get_or ys 3 0 → 256 * get_or xs 4 0 + get_or xs 5 0 ≡ 256 * get_or ys 4 0 + get_or ys 5 0 → xs ≡ ys
six_same xs ys m n p q four two =
    let a : get_or xs 0 0 ≡ get_or ys 0 0 = omega (arith, four, p 0, p 1, p 2, p 3, q 0, q 1, q 2, q 3) in
    let b : get_or xs 1 0 ≡ get_or ys 1 0 = omega (arith, four, a, p 1, p 2, p 3, q 1, q 2, q 3) in
    let c : get_or xs 2 0 ≡ get_or ys 2 0 = omega (arith, four, a, b, p 2, p 3, q 2, q 3) in
    let d : get_or xs 3 0 ≡ get_or ys 3 0 = omega (arith, four, a, b, c) in
    let e : get_or xs 4 0 ≡ get_or ys 4 0 = omega (arith, two, p 4, p 5, q 4, q 5) in
    let f : get_or xs 5 0 ≡ get_or ys 5 0 = omega (arith, two, e) in
    let left = six xs m in
    let right = six ys n in
    cc (left, right, a, b, c, d, e, f)

right : (a b c d : List ℕ) → a ++ b ++ c ++ d ≡ a ++ (b ++ (c ++ d))
right a b c d = simp append_assoc

-- a frame's first six bytes are its first address
pub dst_first : (bytes : List ℕ) (f : Frame) → IsFrame bytes f → take 6 bytes ≡ f.dst.0
dst_first bytes f is =
    let kind : List ℕ = to_be_bytes w16 f.kind in
    ap (λ (x : List ℕ). take 6 x) (is.spelled ∙ right f.dst.0 f.src.0 kind f.body) ∙ take_at f.dst.0 (f.src.0 ++ (kind ++ f.body)) 6 is.dst

pub dst_whole : (bytes : List ℕ) (f : Frame) → IsFrame bytes f → 6 ≤ length bytes
dst_whole bytes f is =
    let kind : List ℕ = to_be_bytes w16 f.kind in
    let e : length bytes ≡ length (f.dst.0 ++ (f.src.0 ++ (kind ++ f.body))) = ap length (is.spelled ∙ right f.dst.0 f.src.0 kind f.body) in
    omega (arith, e, length-append f.dst.0 (f.src.0 ++ (kind ++ f.body)), is.dst)

-- a frame whose first address is the client's or everyone's is for the client
pub for_client : (r : Option EtherFrame) (up : Bool) (mac dst : Mac) (bytes : List ℕ) → up ≡ true → ((f : Frame) → IsFrame bytes f → dst ≡ f.dst) → (dst ≡ mac) ⊎ (dst ≡ everyone) → IfSome r (λ f. IsFrame bytes (frame_of f)) → IfSome r (λ f. IsFrameFor up mac bytes (frame_of f))
for_client None up mac dst bytes is_up same addressed frame = tt
for_client (Some f) up mac dst bytes is_up same addressed frame =
    let P : Mac → Type 0 = λ d. (d ≡ mac) ⊎ (d ≡ everyone) in
    record { is_up = is_up; frame = frame; addressed = subst P (same (frame_of f) frame) addressed }
