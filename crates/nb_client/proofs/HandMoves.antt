-- The next piece of a hand-off, as a move of the machine.
use Rattle.std.proofs.Common.{◌≡◌, ℕ, zero, suc, Bool, true, false, List, [], ◌∷◌, length, drop, map, refl, sym, ◌∙◌, ap, subst, arith}
use Rattle.std.specs.List.{AllByRecursion, flat_map}
use Rattle.nb_defs.specs.Records.{Out}
use Rattle.nb_record.specs.Logged.{Logged, Puts}
use Rattle.nb_image.specs.declared.image.Image.{Image}
use Rattle.nb_image.specs.Parts.{PartText, PieceText, part_pieces}
use Rattle.nb_machine.specs.Conclusions.{part_records, piece_record}
use Rattle.nb_machine.specs.Courses.{stands, handing, handed_off, hands, has_handed}
use Rattle.nb_runner.proofs.Puts.{Puts-nothing}
use Rattle.nb_runner.proofs.HandingLemmas.{piece_put}
use Rattle.nb_runner.specs.Handings.{HandsOn, IsNextPiece, PassesNext, parts_handed, records_left}
use Rattle.nb_runner.specs.declared.handing.Handing.{Handing}
use Rattle.nb_runner.specs.declared.world.World.{World}
use Rattle.nb_traced.specs.Pieces.{IsApart}
use Rattle.nb_network.specs.Many.{Many}
use Rattle.nb_client.specs.Progressing.{PassesPiece, ProceedsTo}
use Rattle.nb_client.specs.Snapshots.{at_handing, at_handed_off, snapshot}
use Rattle.nb_client.specs.Soundness.{IsSound, IsUsable}
use Rattle.nb_client.specs.Turning.{MovesOn}
use Rattle.nb_client.specs.declared.stage.Stage.TheVariants as stage
use Rattle.nb_client.proofs.Moves.{one_move}
use Rattle.nb_client.proofs.Standing.{stands_at}
use Rattle.nb_client.proofs.Traces.{apart_append, plain_apart, trace_apart}

apart_pieces : (p : PartText) (xs : List PieceText) → AllByRecursion IsApart (map (piece_record p) xs)
apart_pieces p [] = tt
apart_pieces p (x ∷ xs) = (tt, apart_pieces p xs)

apart_parts : (ps : List PartText) → AllByRecursion IsApart (flat_map part_records ps)
apart_parts [] = tt
apart_parts (p ∷ ps) = apart_append (part_records p) (flat_map part_records ps) (apart_pieces p (part_pieces p.bytes)) (apart_parts ps)

apart_drop : (n : ℕ) (xs : List Out) → AllByRecursion IsApart xs → AllByRecursion IsApart (drop n xs)
apart_drop zero [] a = tt
apart_drop zero (x ∷ xs) a = a
apart_drop (suc n) [] a = tt
apart_drop (suc n) (x ∷ xs) a = apart_drop n xs a.1

-- what is left of a hand-off concerns no open
apart_left : (images : List Image) (h : Handing) → AllByRecursion IsApart (records_left images h)
apart_left images h = apart_drop h.piece (flat_map part_records (drop h.part (parts_handed images h))) (apart_parts (drop h.part (parts_handed images h)))

first_apart : (xs rest : List Out) (next : Out) → xs ≡ next ∷ rest → AllByRecursion IsApart xs → IsApart next
first_apart xs rest next is a = let b : AllByRecursion IsApart (next ∷ rest) = subst (λ x. AllByRecursion IsApart x) is a in b.0

-- the next piece is put
pub piece_goes : {old new : Logged} (n : ℕ) (w : World) (m : Many) (h h' : Handing) → IsSound n w m (stage.HandingOff h) → HandsOn true w.state.images h h' old new →
    MovesOn (snapshot n w m (stage.HandingOff h)) (snapshot n w m (stage.HandingOff h')) old new
piece_goes {old} {new} n w m h h' sound does =
    let images = w.state.images.images in
    let k = does.1 in
    let all : AllByRecursion IsApart (k.next ∷ []) = (first_apart (records_left images h) (records_left images h') k.next k.left (apart_left images h), tt) in
    record {
      goes = record {
        advances = λ p is_for.
            let at = stands_at (snapshot n w m (stage.HandingOff h)) p is_for in
            let from : p ≡ stands n (handing at.0 (k.next ∷ records_left images h')) = at.2 ∙ ap (λ x. stands n (handing at.0 x)) k.left in
            let to = stands n (handing at.0 (records_left images h')) in
            record {
              added = k.next ∷ [];
              came = [];
              puts = k.puts;
              leads = record {
                progress = to;
                steps = subst (λ x. ProceedsTo p x to) (sym (plain_apart (k.next ∷ []) all))
                    (subst (λ x. ProceedsTo x (k.next ∷ []) to) (sym from) (one_move _ to (k.next ∷ []) (hands n at.0 k.next (records_left images h'))));
                stands = at_handing n w m h' at.0 (records_left images h') at.1 sound.well.1 refl;
              };
              begins = refl;
              traces = λ outs hold so_far t fits. record {
                holdings = hold;
                traced = trace_apart outs (k.next ∷ []) hold so_far t all;
                fits = record { state = fits.state; living = fits.living; waiting = fits.waiting; numbered = fits.numbered };
              };
            };
        sound = record { time = sound.time; opens = sound.opens; serials = sound.serials; tied = sound.tied; well = (does.0, sound.well.1); short = sound.short; named = sound.named; linked = sound.linked; hooked = sound.hooked };
        under_way = tt;
      };
      nearer = λ _. let fewer : length (records_left images h) ≡ length (k.next ∷ records_left images h') = ap length k.left in omega (arith, fewer);
    }

-- all was put
pub handed_goes : {old new : Logged} (n : ℕ) (w : World) (m : Many) (h h' : Handing) → IsSound n w m (stage.HandingOff h) → HandsOn false w.state.images h h' old new →
    MovesOn (snapshot n w m (stage.HandingOff h)) (snapshot n w m stage.HandedOff) old new
handed_goes {old} {new} n w m h h' sound does =
    record {
      goes = record {
        advances = λ p is_for.
            let at = stands_at (snapshot n w m (stage.HandingOff h)) p is_for in
            let from : p ≡ stands n (handing at.0 []) = at.2 ∙ ap (λ x. stands n (handing at.0 x)) does.0 in
            let to = stands n (handed_off at.0) in
            record {
              added = [];
              came = [];
              puts = subst (λ x. Puts old x []) (sym does.2) Puts-nothing;
              leads = record {
                progress = to;
                steps = subst (λ x. ProceedsTo x [] to) (sym from) (one_move _ to [] (has_handed n at.0));
                stands = at_handed_off n w m at.0 at.1 sound.well.1;
              };
              begins = refl;
              traces = λ outs hold so_far t fits. record {
                holdings = hold;
                traced = trace_apart outs [] hold so_far t tt;
                fits = record { state = fits.state; living = fits.living; waiting = fits.waiting; numbered = fits.numbered };
              };
            };
        sound = record { time = sound.time; opens = sound.opens; serials = sound.serials; tied = sound.tied; well = sound.well.1; short = sound.short; named = sound.named; linked = sound.linked; hooked = sound.hooked };
        under_way = tt;
      };
      nearer = λ x. absurd x;
    }

-- a hand-off that is under way, in a client that is of use, is sound
pub usable_hands : (lost : Bool) (n : ℕ) (w : World) (m : Many) (h : Handing) → IsUsable lost (snapshot n w m (stage.HandingOff h)) → IsSound n w m (stage.HandingOff h)
usable_hands true n w m h is = let no : stage.HandingOff h ≡ stage.Stopped = is in cc
usable_hands false n w m h is = is

same_handing : (h h' : Handing) → stage.HandingOff h ≡ stage.HandingOff h' → h' ≡ h
same_handing h h' e = cc

-- the next piece was put by the caller, and is passed
pub piece_turns : (n : ℕ) (w : World) (m : Many) (h h' : Handing) → IsSound n w m (stage.HandingOff h) → PassesNext w.state.images h h' →
    PassesPiece (snapshot n w m (stage.HandingOff h)) (snapshot n w m (stage.HandingOff h'))
piece_turns n w m h h' sound passes = λ p old new next puts.
    let comes : IsNextPiece w.state.images.images h p = subst (λ x. IsNextPiece w.state.images.images x p) (same_handing h next.under_way next.is) next.next in
    let goes = piece_goes n w m h h' sound (piece_put w.state.images h h' p comes passes puts) in
    (goes.goes.advances, tt)
