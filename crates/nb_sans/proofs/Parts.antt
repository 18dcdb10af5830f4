-- The PDUs among the parts of a stream, and the parts by its cut.
use Rattle.std.proofs.Common.{◌≡◌, ℕ, Bool, true, false, List, [], ◌∷◌, ◌++◌, map, if◌then◌else◌, refl, ap, ◌∙◌, sym, append-nil}
use Rattle.std.specs.List.{flat_map}
use Rattle.std.proofs.lemmas.Bool.{false≢true}
use Rattle.std.proofs.lemmas.List.{map-append}
use Rattle.std.proofs.lemmas.List.Concat.{flat_map-append}
use Rattle.nb_iscsipdu.specs.PduTexts.{PduParts}
use Rattle.nb_iscsipdu.specs.Streams.{cut, is_refused}
use Rattle.nb_disk.specs.Histories.{DiskCall, came, asked, stream_ended}
use Rattle.nb_sans.specs.Sessions.{last_part, stream_parts}
use Rattle.nb_sans.specs.SessionSteps.{PartsFollowTheCut}
use Rattle.nb_sans.proofs.StreamGrowth.{refused_stays}

-- ---- the PDUs among the parts of a stream

pdu_in : DiskCall → List PduParts
pdu_in (came rec p) = p ∷ []
pdu_in (asked lba n) = []
pdu_in (stream_ended rec) = []

all_pdus : (rec : ℕ) (ps : List PduParts) → flat_map pdu_in (map (came rec) ps) ≡ ps
unfolding pdu_in
all_pdus rec [] = refl
all_pdus rec (p ∷ ps) = ap (λ (l : List PduParts). p ∷ l) (all_pdus rec ps)

none_last : (rec : ℕ) (b : Bool) → flat_map pdu_in (if b then stream_ended rec ∷ [] else []) ≡ []
unfolding pdu_in
none_last rec true = refl
none_last rec false = refl

pdus_of : (rec : ℕ) (stream : List ℕ) → flat_map pdu_in (stream_parts rec stream) ≡ (cut stream).pdus
pdus_of rec stream =
    flat_map-append pdu_in (map (came rec) (cut stream).pdus) (last_part rec (cut stream).rest)
    ∙ ap (λ (l : List PduParts). flat_map pdu_in (map (came rec) (cut stream).pdus) ++ l) (none_last rec (is_refused (cut stream).rest))
    ∙ append-nil (flat_map pdu_in (map (came rec) (cut stream).pdus)) ∙ all_pdus rec (cut stream).pdus

pub same_pdus : (rec : ℕ) (one two : List ℕ) → stream_parts rec two ≡ stream_parts rec one → (cut two).pdus ≡ (cut one).pdus
same_pdus rec one two is = sym (pdus_of rec two) ∙ ap (flat_map pdu_in) is ∙ pdus_of rec one

pub pdu_more : (rec : ℕ) (one two : List ℕ) (p : PduParts) → stream_parts rec two ≡ stream_parts rec one ++ came rec p ∷ [] → (cut two).pdus ≡ (cut one).pdus ++ p ∷ []
unfolding pdu_in
pdu_more rec one two p is =
    sym (pdus_of rec two) ∙ ap (flat_map pdu_in) is ∙ flat_map-append pdu_in (stream_parts rec one) (came rec p ∷ []) ∙ ap (λ (l : List PduParts). l ++ p ∷ []) (pdus_of rec one)

-- ---- the parts by the cut

-- a stream that isn't refused wasn't before
not_yet : (come later : List ℕ) → is_refused (cut (come ++ later)).rest ≡ false → is_refused (cut come).rest ≡ false
not_yet come later off = by (is_refused (cut come).rest) refl
  where
    by : (b : Bool) → is_refused (cut come).rest ≡ b → b ≡ false
    by true e = absurd (false≢true (sym off ∙ refused_stays come later e))
    by false e = refl

parts_so : (rec : ℕ) (stream : List ℕ) (ps : List PduParts) (b : Bool) → (cut stream).pdus ≡ ps → is_refused (cut stream).rest ≡ b
    → stream_parts rec stream ≡ map (came rec) ps ++ (if b then stream_ended rec ∷ [] else [])
parts_so rec stream ps b pdus e =
    ap (λ (l : List PduParts). map (came rec) l ++ last_part rec (cut stream).rest) pdus ∙ ap (λ c. map (came rec) ps ++ (if c then stream_ended rec ∷ [] else [])) e

parts_open : (rec : ℕ) (stream : List ℕ) → is_refused (cut stream).rest ≡ false → stream_parts rec stream ≡ map (came rec) (cut stream).pdus
parts_open rec stream e = parts_so rec stream (cut stream).pdus false refl e ∙ append-nil (map (came rec) (cut stream).pdus)

pub parts_follow : PartsFollowTheCut
parts_follow = record {
  none = λ rec come later pdus off. parts_open rec (come ++ later) off ∙ ap (map (came rec)) pdus ∙ sym (parts_open rec come (not_yet come later off));
  one = λ rec come later p pdus off.
      parts_open rec (come ++ later) off ∙ ap (map (came rec)) pdus ∙ map-append (came rec) (cut come).pdus (p ∷ [])
      ∙ ap (λ (l : List DiskCall). l ++ came rec p ∷ []) (sym (parts_open rec come (not_yet come later off)));
  off = λ rec come later pdus before off.
      parts_so rec (come ++ later) (cut come).pdus true pdus off ∙ ap (λ (l : List DiskCall). l ++ stream_ended rec ∷ []) (sym (parts_open rec come before));
}
