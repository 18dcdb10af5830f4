-- What a connection makes of a segment that brings more.
use Rattle.std.proofs.Common.{◌≡◌, ◌&&◌, not, ℕ, Bool, true, false, Option, Some, unwrap_or, sym, ap, subst, ◌∙◌}
use Rattle.std.specs.Option.{option_or}
use Rattle.std.proofs.lemmas.Bool.{true≢false}
use Rattle.nb_tcpseg.specs.SegmentText.{SegmentParts}
use Rattle.nb_lab.specs.declared.connection.StreamPart.{StreamPart}
use Rattle.nb_lab.specs.declared.connection.StreamPart.TheVariants.{Acknowledgement}
use Rattle.nb_lab.specs.declared.connection.Connection.{Connection}
use Rattle.nb_lab.specs.Connections.{carries_flag, after_ack, next_part}
use Rattle.nb_lab.specs.Receptions.{is_closed, place_after_sent, counts_segment, brings_bytes, IsReceived, ConnectionReceives, IsSegmentTaken}

contrary : (b : Bool) → b ≡ true → b ≡ false → ⊥
contrary b h k = true≢false (sym h ∙ k)

pub counts_so : (c : Connection) (s : SegmentParts) → carries_flag s 16 ≡ true → is_closed c.state ≡ false → counts_segment c s ≡ true
counts_so c s h k = ap (λ (b : Bool). b && not (is_closed c.state)) h ∙ ap (λ (b : Bool). not b) k

pub taken_more : (c : Connection) (s : SegmentParts) (images : ℕ) (part : Option StreamPart) (d : Connection) → carries_flag s 4 ≡ false → counts_segment c s ≡ true
    → brings_bytes s ≡ true → ConnectionReceives c s images part d → IsSegmentTaken c s images part d
taken_more c s images part d plain is more receives = record {
  reset = λ other. absurd (contrary (carries_flag s 4) other plain);
  dropped = λ _ other. absurd (contrary (counts_segment c s) is other);
  acknowledges = λ _ _ other. absurd (contrary (brings_bytes s) more other);
  receives = λ _ _ _. receives;
}

-- what is sent where more comes
pub receives_more : (c b : Connection) (s : SegmentParts) (images : ℕ) (first next part : Option StreamPart) (place : ℕ) (d : Connection) → b ≡ after_ack c s
    → IsReceived b s images first d → next ≡ next_part c s → place ≡ place_after_sent b.state
    → part ≡ Some (unwrap_or (option_or first next) (Acknowledgement place)) → ConnectionReceives c s images part d
receives_more c b s images first next part place d is received next_is place_is part_is =
    let sends : Option StreamPart → ℕ → Option StreamPart = λ n k. Some (unwrap_or (option_or first n) (Acknowledgement k)) in
    let Of : Connection → Type 0 = λ x. IsReceived x s images first d in
    record {
      first = first;
      received = subst Of is received;
      sent =
          part_is ∙ ap (λ (n : Option StreamPart). sends n place) next_is
          ∙ ap (sends (next_part c s)) (place_is ∙ ap (λ (x : Connection). place_after_sent x.state) is);
    }
