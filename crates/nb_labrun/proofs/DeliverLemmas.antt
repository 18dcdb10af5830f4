-- How the records of an output are delivered, one after another.
use Rattle.std.proofs.Common.{◌≡◌, ◌<◌, ◌^◌, ℕ, false, List, [], ◌∷◌, ◌++◌, length, refl, sym, ap, subst, ◌∙◌, append-nil, append_assoc, length-append, arith}
use Rattle.std.proofs.lemmas.Bool.{true≢false}
use Rattle.nb_defs.specs.Records.{In, Out, step, sent, text, command, result, script, opened, tried, advanced, ended, graph, part, done, out_text, out_texts}
use Rattle.nb_lab.specs.Labs.{LabState, IsGiven}
use Rattle.nb_lab.specs.Tallies.{Tally, Counts}
use Rattle.nb_lab.specs.Shows.{Seen, seen}
use Rattle.nb_lab.specs.Shows as shows
use Rattle.nb_lab.specs.Summaries.{is_frame}
use Rattle.nb_labrun.specs.Delivering.{DeliversRecord, Delivers, delivers_none, delivers_more, AreDelivered}

-- one record more is delivered
pub delivers_then : (l l' l'' : LabState) (outs : List Out) (o : Out) → Delivers l outs l' → DeliversRecord l' o l'' → Delivers l (outs ++ o ∷ []) l''
delivers_then l l' l'' outs o (delivers_none a) d = delivers_more l l'' l'' o [] d (delivers_none l'')
delivers_then l l' l'' outs o (delivers_more a b x p ps first rest) d = delivers_more l b l'' p (ps ++ o ∷ []) first (delivers_then b l' l'' ps o rest d)

-- a frame that is seen is one
pub frame_reaches : (o : Out) (bytes : List ℕ) (l l' : LabState) → shows.frame bytes ≡ seen o → IsGiven l bytes l' → DeliversRecord l o l'
frame_reaches (sent other) bytes l l' same given = subst (λ (b : List ℕ). IsGiven l b l') (cc same) given
frame_reaches (step number) bytes l l' same given = absurd (cc same)
frame_reaches (text printed) bytes l l' same given = absurd (cc same)
frame_reaches (command depth line place expanded words) bytes l l' same given = absurd (cc same)
frame_reaches (result cause) bytes l l' same given = absurd (cc same)
frame_reaches (script what depth cause) bytes l l' same given = absurd (cc same)
frame_reaches (opened number kind server port own target) bytes l l' same given = absurd (cc same)
frame_reaches (tried number count) bytes l l' same given = absurd (cc same)
frame_reaches (advanced number place) bytes l l' same given = absurd (cc same)
frame_reaches (ended number cause) bytes l l' same given = absurd (cc same)
frame_reaches (graph happens) bytes l l' same given = absurd (cc same)
frame_reaches (part kind index offset piece) bytes l l' same given = absurd (cc same)
frame_reaches (done status) bytes l l' same given = absurd (cc same)

-- another record reaches nobody
pub other_reaches : (o : Out) (s : Seen) (l : LabState) → s ≡ seen o → is_frame s ≡ false → DeliversRecord l o l
other_reaches (sent bytes) s l same other = absurd (true≢false (sym (ap is_frame same) ∙ other))
other_reaches (step number) s l same other = refl
other_reaches (text bytes) s l same other = refl
other_reaches (command depth line place expanded words) s l same other = refl
other_reaches (result cause) s l same other = refl
other_reaches (script what depth cause) s l same other = refl
other_reaches (opened number kind server port own target) s l same other = refl
other_reaches (tried number count) s l same other = refl
other_reaches (advanced number place) s l same other = refl
other_reaches (ended number cause) s l same other = refl
other_reaches (graph happens) s l same other = refl
other_reaches (part kind index offset bytes) s l same other = refl
other_reaches (done status) s l same other = refl

-- how far the records are delivered: these are, and the others are left
pub record IsLeft (outs : List Out) (rest : List ℕ) (l : LabState) (t : Tally) (l' : LabState) (t' : Tally) : Type 0 where
  pub gone : List Out
  pub left : List Out
  pub all : outs ≡ gone ++ left
  pub spelled : rest ≡ out_texts left
  pub delivered : AreDelivered gone l t l' t'

pub all_left : (outs : List Out) (rest : List ℕ) (l : LabState) (t : Tally) → rest ≡ out_texts outs → IsLeft outs rest l t l t
all_left outs rest l t is = record {
  gone = [];
  left = outs;
  all = refl;
  spelled = is;
  delivered = record {
    delivers = delivers_none l;
    counts = λ ins before h. subst (λ (xs : List Out). Counts t ins xs) (sym (append-nil before)) h;
    images = refl;
  };
}

-- what is read of the rest: its first record, and the rest after it
pub record IsNext (outs : List Out) (after : List ℕ) (s : Seen) (l : LabState) (t : Tally) (l' : LabState) (t' : Tally) : Type 0 where
  pub gone : List Out
  pub first : Out
  pub left : List Out
  pub all : outs ≡ gone ++ first ∷ left
  pub is_seen : s ≡ seen first
  pub spelled : after ≡ out_texts left
  pub delivered : AreDelivered gone l t l' t'

-- nothing is shorter than nothing
not_shorter : (rest after : List ℕ) → rest ≡ [] → length after < length rest → ⊥
not_shorter rest after none shorter = omega (arith, ap length none, shorter)

pub next_left : (outs : List Out) (rest after : List ℕ) (s : Seen) (l : LabState) (t : Tally) (l' : LabState) (t' : Tally) → length rest < 2 ^ 32 → length after < length rest →
    ((o : Out) (more : List ℕ) → length (out_text o) < 2 ^ 32 → rest ≡ out_text o ++ more → (s ≡ seen o) × (after ≡ more)) →
    IsLeft outs rest l t l' t' → IsNext outs after s l t l' t'
next_left outs rest after s l t l' t' few shorter first r = by_left r.left r.all r.spelled
  where
    by_left : (left : List Out) → outs ≡ r.gone ++ left → rest ≡ out_texts left → IsNext outs after s l t l' t'
    by_left [] all spelled = absurd (not_shorter rest after spelled shorter)
    by_left (o ∷ left) all spelled =
        let fits : length (out_text o) < 2 ^ 32 = omega (arith, few, ap length spelled, length-append (out_text o) (out_texts left)) in
        let read = first o (out_texts left) fits spelled in
        record { gone = r.gone; first = o; left = left; all = all; is_seen = read.0; spelled = read.1; delivered = r.delivered }

-- the record was delivered and counted
pub left_after : (outs : List Out) (after : List ℕ) (s : Seen) (l : LabState) (t : Tally) (l1 : LabState) (t1 : Tally) (l' : LabState) (t' : Tally) → (n : IsNext outs after s l t l1 t1) →
    DeliversRecord l1 n.first l' → ((ins : List In) (before : List Out) (o : Out) → s ≡ seen o → Counts t1 ins before → Counts t' ins (before ++ o ∷ [])) → t'.images ≡ t1.images →
    IsLeft outs after l t l' t'
left_after outs after s l t l1 t1 l' t' n reaches counts images = record {
  gone = n.gone ++ n.first ∷ [];
  left = n.left;
  all = n.all ∙ sym (append_assoc n.gone (n.first ∷ []) n.left);
  spelled = n.spelled;
  delivered = record {
    delivers = delivers_then l l1 l' n.gone n.first n.delivered.delivers reaches;
    counts = λ ins before h.
        subst (λ (xs : List Out). Counts t' ins xs) (append_assoc before n.gone (n.first ∷ [])) (counts ins (before ++ n.gone) n.first n.is_seen (n.delivered.counts ins before h));
    images = images ∙ n.delivered.images;
  };
}

-- nothing is left
pub none_left : (outs : List Out) (rest : List ℕ) (l : LabState) (t : Tally) (l' : LabState) (t' : Tally) → length rest < 2 ^ 32 →
    ((o : Out) (more : List ℕ) → length (out_text o) < 2 ^ 32 → rest ≡ out_text o ++ more → ⊥) → IsLeft outs rest l t l' t' → AreDelivered outs l t l' t'
none_left outs rest l t l' t' few none r = by_left r.left r.all r.spelled
  where
    by_left : (left : List Out) → outs ≡ r.gone ++ left → rest ≡ out_texts left → AreDelivered outs l t l' t'
    by_left [] all spelled = subst (λ (xs : List Out). AreDelivered xs l t l' t') (sym (all ∙ append-nil r.gone)) r.delivered
    by_left (o ∷ left) all spelled =
        absurd (none o (out_texts left) (omega (arith, few, ap length spelled, length-append (out_text o) (out_texts left))) spelled)
