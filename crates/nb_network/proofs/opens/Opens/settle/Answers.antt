use Rattle.std.proofs.Common.{◌≡◌, None, refl, sym, ◌∙◌, subst, ap, ◌∷◌, ◌++◌, get_or, set}
use Rattle.nb_defs.specs.Records.{out_texts}
use Rattle.nb_record.specs.Logged.{Puts}
use Rattle.nb_runner.proofs.Puts.{Puts-append}
use Rattle.nb_network.specs.declared.living.Living.{Living}
use Rattle.nb_teller.specs.Spelling.{Spelling}
use Rattle.nb_network.specs.Drives.{DriveNews, news_of, noted}
use Rattle.nb_network.specs.Many.{Many}
use Rattle.nb_network.specs.Steps.{EndIsPut, EndIsSettled, IsOpenAt, step_records}
use Rattle.nb_network.proofs.Places.{open_at, set_at}
use Rattle.nb_network.proofs.Results.{ok_map}
use Rattle.nb_network.proofs.opens.Opens.settle.Goals as goal

pub returns-in-None-clause-settles : goal.returns-in-None-clause-settles
returns-in-None-clause-settles c = λ o at.
    let list = c.args.self.now.list in
    let heard : DriveNews = news_of c.args.asked c.args.desk.now.told.value in
    let x = c.index_mut.result.now in
    let v : c.self.inside.list.items ≡ list = ap (λ (m : Many). m.list) c.self.view_is in
    let same : x ≡ o = c.index_mut.ensures.value ∙ ap (λ os. get_or os c.args.place x) v ∙ open_at list c.args.place x o at in
    let new : c.note.new.self ≡ noted heard o = c.in_ok-note.ensures ∙ (ap (λ (z : Spelling). noted (news_of c.args.asked z) x) c.deref.ensures ∙ ap (noted heard) same) in
    subst (λ e. EndIsSettled e at.before o at.behind c.args.net.now c.args.begun c.args.awaited heard c.args.desk.now.told.value (set c.self.inside.list.items c.args.place c.note.new.self) c.args.net.now None c.args.log.now c.put_told.new.log)
    (sym c.in-None.is) (
      ap (λ os. set os c.args.place c.note.new.self) v ∙ set_at list c.args.place o at c.note.new.self ∙ ap (λ y. at.before ++ y ∷ at.behind) new,
      refl,
      refl,
      subst (λ z. Puts c.args.log.now c.put_told.new.log (out_texts (step_records c.args.begun) ++ z)) (ap (λ s. s.text) c.deref-in-None.ensures)
          (Puts-append (out_texts (step_records c.args.begun)) c.deref-in-None.result.now.text c.put_begin.ensures c.put_told.ensures.text),
    )

pub returns-in-Some-clause-settles : goal.returns-in-Some-clause-settles
returns-in-Some-clause-settles c =
    let list = c.args.self.now.list in
    let heard : DriveNews = news_of c.args.asked c.args.desk.now.told.value in
    let x = c.index_mut.result.now in
    let v : c.self.inside.list.items ≡ list = ap (λ (m : Many). m.list) c.self.view_is in
    ok_map
    (λ answer. (o : Living) (at : IsOpenAt (set c.self.inside.list.items c.args.place c.note.new.self) c.args.place o) → EndIsPut c.in-Some.ended at.before o at.behind c.args.net.now c.args.begun c.args.awaited c.args.desk.now.told.value c.end.new.self.list c.end.new.net answer c.args.log.now c.end.new.log)
    (λ answer. (o : Living) (at : IsOpenAt list c.args.place o) → EndIsSettled c.args.ended at.before o at.behind c.args.net.now c.args.begun c.args.awaited heard c.args.desk.now.told.value c.end.new.self.list c.end.new.net answer c.args.log.now c.end.new.log)
    c.end.result
    (λ answer h o at.
    let same : x ≡ o = c.index_mut.ensures.value ∙ ap (λ os. get_or os c.args.place x) v ∙ open_at list c.args.place x o at in
    let new : c.note.new.self ≡ noted heard o = c.in_ok-note.ensures ∙ (ap (λ (z : Spelling). noted (news_of c.args.asked z) x) c.deref.ensures ∙ ap (noted heard) same) in
    let there : IsOpenAt (set c.self.inside.list.items c.args.place c.note.new.self) c.args.place (noted heard o) = record {
      before = at.before;
      behind = at.behind;
      all = ap (λ os. set os c.args.place c.note.new.self) v ∙ set_at list c.args.place o at c.note.new.self ∙ ap (λ y. at.before ++ y ∷ at.behind) new;
      place_is = at.place_is;
    } in
    subst (λ e. EndIsSettled e at.before o at.behind c.args.net.now c.args.begun c.args.awaited heard c.args.desk.now.told.value c.end.new.self.list c.end.new.net answer c.args.log.now c.end.new.log) (sym c.in-Some.is)
    (h (noted heard o) there))
    c.end.ensures.settles
