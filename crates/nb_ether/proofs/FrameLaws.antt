-- A frame has one spelling, and bytes are at most one frame.
use Rattle.std.proofs.Common.{◌≡◌, ℕ, List, ◌++◌, refl, sym, ap, ◌∙◌, append_assoc, arith}
use Rattle.std.specs.Int.{w16, to_be_bytes, from_be_bytes}
use Rattle.nb_wire.proofs.BytesLaws.{IsBytes}
use Rattle.nb_wire.specs.declared.address.Mac.{Mac}
use Rattle.std.proofs.lemmas.Nat.{be_bytes_2}
use Rattle.nb_ether.specs.Frame.{Frame, IsFrame}
use Rattle.nb_wire.proofs.BytesLaws.{Splits, append_one, be16_one, IsBytes-rest, IsBytes-front}

right : (a b c d : List ℕ) → a ++ b ++ c ++ d ≡ a ++ (b ++ (c ++ d))
right a b c d = simp append_assoc

pub frame_read : (bytes dst src kind body rest last : List ℕ) (number : ℕ) → IsBytes bytes → number ≡ from_be_bytes w16 kind → Splits 6 bytes dst rest → Splits 6 rest src last → Splits 2 last kind body → IsFrame bytes (record { dst = record { 0 = dst }; src = record { 0 = src }; kind = number; body = body })
frame_read bytes dst src kind body rest last number fits is first second third =
    let kind_fits : IsBytes kind = IsBytes-front 2 last kind body third (IsBytes-rest 6 rest src last second (IsBytes-rest 6 bytes dst rest first fits)) in
    let back : to_be_bytes w16 number ≡ kind = be_bytes_2 kind number third.len kind_fits is in
    record {
      dst = first.len;
      src = second.len;
      kind = omega (arith, is, kind_fits 0, kind_fits 1);
      spelled = first.parts ∙ ap (λ (x : List ℕ). dst ++ x) (second.parts ∙ ap (λ (x : List ℕ). src ++ x) (third.parts ∙ ap (λ (x : List ℕ). x ++ body) (sym back))) ∙ sym (right dst src (to_be_bytes w16 number) body);
    }

abbrev made : Mac → Mac → ℕ → List ℕ → Frame
made dst src kind body = record { dst = dst; src = src; kind = kind; body = body }

frame_same : (f g : Frame) → f.dst ≡ g.dst → f.src ≡ g.src → f.kind ≡ g.kind → f.body ≡ g.body → f ≡ g
frame_same f g a b c d =
    ap (λ (x : Mac). made x f.src f.kind f.body) a
    ∙ ap (λ (x : Mac). made g.dst x f.kind f.body) b
    ∙ ap (λ (x : ℕ). made g.dst g.src x f.body) c
    ∙ ap (λ (x : List ℕ). made g.dst g.src g.kind x) d

pub frame_one : (bytes : List ℕ) (f g : Frame) → IsFrame bytes f → IsFrame bytes g → f ≡ g
frame_one bytes f g p q =
    let e : f.dst.0 ++ (f.src.0 ++ (to_be_bytes w16 f.kind ++ f.body)) ≡ g.dst.0 ++ (g.src.0 ++ (to_be_bytes w16 g.kind ++ g.body)) =
    sym (right f.dst.0 f.src.0 (to_be_bytes w16 f.kind) f.body) ∙ sym p.spelled ∙ q.spelled ∙ right g.dst.0 g.src.0 (to_be_bytes w16 g.kind) g.body in
    let first = append_one f.dst.0 _ g.dst.0 _ (p.dst ∙ sym q.dst) e in
    let second = append_one f.src.0 _ g.src.0 _ (p.src ∙ sym q.src) first.1 in
    let third = append_one (to_be_bytes w16 f.kind) f.body (to_be_bytes w16 g.kind) g.body refl second.1 in
    let dst : f.dst.0 ≡ g.dst.0 = first.0 in
    let src : f.src.0 ≡ g.src.0 = second.0 in
    let kind : f.kind ≡ g.kind = be16_one f.kind g.kind p.kind q.kind third.0 in
    let body : f.body ≡ g.body = third.1 in
    let dsts : f.dst ≡ g.dst = ap (λ (x : List ℕ). let m : Mac = record { 0 = x } in m) dst in
    let srcs : f.src ≡ g.src = ap (λ (x : List ℕ). let m : Mac = record { 0 = x } in m) src in
    frame_same f g dsts srcs kind body
