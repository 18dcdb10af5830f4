-- How a run in a lab goes on: what the client puts, and what comes of its delivery.
use Rattle.std.proofs.Common.{◌≡◌, ℕ, ◌+◌, ◌≤◌, false, List, [], ◌∷◌, ◌++◌, length, refl, sym, ap, subst, ◌∙◌, append-nil, append_assoc, length-append, arith}
use Rattle.nb_defs.specs.Records.{In, start, Out, step, out_texts}
use Rattle.nb_record.specs.Logged.{Logged}
use Rattle.nb_client.specs.Snapshots.{Snapshot}
use Rattle.nb_client.specs.Progressing.{Advances, IsAtWork}
use Rattle.nb_boot.proofs.Following.{follows_counts}
use Rattle.nb_boot.proofs.Standing.{stands_used}
use Rattle.nb_lab.specs.declared.answer.Answer.{Answer}
use Rattle.nb_lab.specs.Scripts.{lab_start}
use Rattle.nb_lab.specs.Labs.{LabState, new_lab, next_record, after_next}
use Rattle.nb_lab.specs.Tallies.{Tally, Counts}
use Rattle.nb_labrun.specs.Delivering.{Delivers, delivers_none, delivers_more, AreDelivered}
use Rattle.nb_labrun.specs.Runs.{InLab, starts, comes, puts}
use Rattle.nb_labrun.specs.Playing.{HasLedClient, InPlay, GathersUndelivered, IsCleared}
use Rattle.nb_labrun.proofs.KeepingLemmas.{IsLabRecord}
use Rattle.nb_labrun.proofs.TextLemmas.{start_is_lab}
use Rattle.nb_labrun.proofs.LeadLemmas.{led_moves, led_uses}

-- what is put and delivered is put in the lab
pub in_lab_more : (images : ℕ) (ins : List In) (outs : List Out) (l : LabState) (more : List Out) (l' : LabState) → InLab images ins outs l → Delivers l more l' → InLab images ins (outs ++ more) l'
in_lab_more images ins outs l more l' i (delivers_none a) = subst (λ xs. InLab images ins xs l') (sym (append-nil outs)) i
in_lab_more images ins outs l more l' i (delivers_more a b c o os first rest) =
    subst (λ xs. InLab images ins xs l') (append_assoc outs (o ∷ []) os) (in_lab_more images ins (outs ++ o ∷ []) b os l' (puts ins outs l b o i first) rest)

-- STEP reaches nobody
after_step : (l l' : LabState) (n : ℕ) (more : List Out) → Delivers l (step n ∷ more) l' → Delivers l more l'
after_step l l' n more (delivers_more a b c o os same rest) = subst (λ x. Delivers x more l') same rest

-- what is put in the step of a record is put in the lab, once it is delivered
step_in_lab : (images : ℕ) (ins : List In) (outs : List Out) (l l' : LabState) (n : ℕ) (more added : List Out) → InLab images ins (outs ++ step n ∷ []) l → added ≡ step n ∷ more → Delivers l added l' →
    InLab images ins (outs ++ added) l'
step_in_lab images ins outs l l' n more added i is d =
    subst (λ xs. InLab images ins (outs ++ xs) l') (sym is)
    (subst (λ xs. InLab images ins xs l') (append_assoc outs (step n ∷ []) more)
    (in_lab_more images ins (outs ++ step n ∷ []) l more l' i (after_step l l' n more (subst (λ xs. Delivers l xs l') is d))))

-- what comes from a lab keeps to it
next_is_lab : (waiting : List Answer) → IsLabRecord (next_record waiting)
next_is_lab [] = tt
next_is_lab (answer ∷ rest) = tt

-- the client moves on in a step
pub play_moves : (images used : ℕ) (l : LabState) (t : Tally) (c c' : Snapshot) (old new : Logged) → IsCleared old → IsAtWork c.stage → Advances [] c c' old new → InPlay images used l t c →
    GathersUndelivered images used new l t c'
play_moves images used l t c c' old new clear busy adv p whole =
    let g = adv p.led.progress p.led.stands in
    record {
      ins = p.ins;
      outs = p.outs;
      added = g.added;
      counted = p.counted;
      led = led_moves p.ins p.outs old new c c' p.led g busy;
      arrives = λ l' d. in_lab_more images p.ins p.outs l g.added l' p.in_lab d;
      counts = p.counts;
      are_images = p.are_images;
      spelled = (g.puts.whole whole).1 ∙ ap (λ xs. xs ++ out_texts g.added) clear.none;
    }

-- it uses the next record that comes from the lab
pub play_uses : (images used : ℕ) (r : In) (l : LabState) (t t' : Tally) (c c' : Snapshot) (old new : Logged) → IsCleared old → r ≡ next_record l.transit.waiting → Advances (r ∷ []) c c' old new →
    ((ins : List In) (outs : List Out) (x : In) → Counts t ins outs → Counts t' (ins ++ x ∷ []) outs) → t'.images ≡ t.images → InPlay images used l t c →
    GathersUndelivered images (used + 1) new (after_next l l.transit.waiting) t' c'
play_uses images used r l t t' c c' old new clear is adv counts same p whole =
    let g = adv p.led.progress p.led.stands in
    let b = g.begins in
    let number : p.led.progress.used + 1 ≡ length p.ins + 1 = ap (λ n. n + 1) (follows_counts p.ins p.outs p.led.progress p.led.came p.led.follows) in
    let first : g.added ≡ step (length p.ins + 1) ∷ b.0 = b.1 ∙ ap (λ n. step n ∷ b.0) number in
    let come : InLab images (p.ins ++ r ∷ []) (p.outs ++ step (length p.ins + 1) ∷ []) (after_next l l.transit.waiting) =
    subst (λ x. InLab images (p.ins ++ x ∷ []) (p.outs ++ step (length p.ins + 1) ∷ []) (after_next l l.transit.waiting)) (sym is) (comes p.ins p.outs l p.in_lab) in
    record {
      ins = p.ins ++ r ∷ [];
      outs = p.outs;
      added = g.added;
      counted = omega (arith, length-append p.ins (r ∷ []), p.counted);
      led = led_uses r p.ins p.outs old new c c' p.led g (subst IsLabRecord (sym is) (next_is_lab l.transit.waiting));
      arrives = λ l' d. step_in_lab images (p.ins ++ r ∷ []) p.outs (after_next l l.transit.waiting) l' (length p.ins + 1) b.0 g.added come first d;
      counts = counts p.ins p.outs r p.counts;
      are_images = same ∙ p.are_images;
      spelled = (g.puts.whole whole).1 ∙ ap (λ xs. xs ++ out_texts g.added) clear.none;
    }

-- it uses START
pub play_starts : (images : ℕ) (r : In) (l : LabState) (t t' : Tally) (c c' : Snapshot) (old new : Logged) → images ≤ 64 → IsCleared old → r ≡ start (lab_start images) → l ≡ new_lab images → Advances (r ∷ []) c c' old new →
    Counts t' (r ∷ []) [] → t'.images ≡ images → HasLedClient [] [] c → GathersUndelivered images 1 new l t' c'
play_starts images r l t t' c c' old new few clear is fresh adv counts same led whole =
    let g = adv led.progress led.stands in
    let b = g.begins in
    let number : led.progress.used + 1 ≡ 1 = ap (λ n. n + 1) (follows_counts [] [] led.progress led.came led.follows) in
    let first : g.added ≡ step 1 ∷ b.0 = b.1 ∙ ap (λ n. step n ∷ b.0) number in
    let come : InLab images (r ∷ []) (step 1 ∷ []) l =
    subst (λ x. InLab images (x ∷ []) (step 1 ∷ []) l) (sym is) (subst (λ x. InLab images (start (lab_start images) ∷ []) (step 1 ∷ []) x) (sym fresh) starts) in
    record {
      ins = r ∷ [];
      outs = [];
      added = g.added;
      counted = refl;
      led = led_uses r [] [] old new c c' led g (subst IsLabRecord (sym is) (start_is_lab images few));
      arrives = λ l' d. step_in_lab images (r ∷ []) [] l l' 1 b.0 g.added come first d;
      counts = counts;
      are_images = same;
      spelled = (g.puts.whole whole).1 ∙ ap (λ xs. xs ++ out_texts g.added) clear.none;
    }

-- what was put is delivered and counted
pub play_delivered : (images used : ℕ) (log : Logged) (l l' : LabState) (t t' : Tally) (c : Snapshot) → log.is_short ≡ false →
    ((outs : List Out) → log.bytes ≡ out_texts outs → AreDelivered outs l t l' t') → GathersUndelivered images used log l t c → InPlay images used l' t' c
play_delivered images used log l l' t t' c whole delivered gathers =
    let u = gathers whole in
    let d = delivered u.added u.spelled in
    record {
      ins = u.ins;
      outs = u.outs ++ u.added;
      counted = u.counted;
      led = u.led;
      in_lab = u.arrives l' d.delivers;
      counts = d.counts u.ins u.outs u.counts;
      are_images = d.images ∙ u.are_images;
    }

-- the client has used as many records
pub play_used : (images used : ℕ) (l : LabState) (t : Tally) (c : Snapshot) → InPlay images used l t c → c.used ≡ used
play_used images used l t c p =
    sym (stands_used c p.led.progress p.led.stands) ∙ follows_counts p.ins p.outs p.led.progress p.led.came p.led.follows ∙ p.counted
