use Rattle.std.proofs.Common.{◌≡◌, ℕ, List, ◌++◌, ◌≤◌, length, slice_index, refl, ap, ◌∙◌, arith}
use Rattle.std.proofs.lemmas.List.{length-append}
use Rattle.nb_wire.proofs.BytesLaws.{splits_of}
use Rattle.nb_ibft.specs.Tables.{portal_text, target_login_text}
use Rattle.nb_ibft.proofs.FieldLemmas.{part_cut, address_read, number_read, target_same}
use Rattle.nb_ibft.proofs.lent.LentTarget.read.Goals as goal

pub returns-in_err-portal-clause-complete : goal.returns-in_err-portal-clause-complete
returns-in_err-portal-clause-complete c = λ index at t after valid short stand most e. absurd (c.in_err-portal.ensures.complete (portal_text index t) (t.lun ++ (target_login_text at t ++ after)) refl e)

-- bytes that begin with eight have eight
eight : (bytes lun more : List ℕ) → bytes ≡ lun ++ more → length lun ≡ 8 → 8 ≤ length bytes
eight bytes lun more e h = omega (arith, ap length e, length-append lun more, h)

pub returns-in_err-lun-clause-complete : goal.returns-in_err-lun-clause-complete
returns-in_err-lun-clause-complete c = λ index at t after valid short stand most e.
    let portal = c.in_ok-portal.ensures.complete (portal_text index t) (t.lun ++ (target_login_text at t ++ after)) refl e in
    absurd (omega (arith, eight _ _ _ portal.1 valid.lun, c.in_err-lun.ensures.cases))

pub returns-in_err-login-clause-complete : goal.returns-in_err-login-clause-complete
returns-in_err-login-clause-complete c = λ index at t after valid short stand most e.
    let portal = c.in_ok-portal.ensures.complete (portal_text index t) (t.lun ++ (target_login_text at t ++ after)) refl e in
    let lun = part_cut 8 _ _ _ _ _ (splits_of 8 _ _ _ c.in_ok-lun.ensures.cases.0 c.in_ok-lun.ensures.cases.1 c.in_ok-lun.ensures.cases.2) valid.lun portal.1 in
    absurd (c.in_err-login.ensures.complete (target_login_text at t) after refl lun.1)

pub returns-in_err-texts-clause-complete : goal.returns-in_err-texts-clause-complete
returns-in_err-texts-clause-complete c = λ index at t after valid short stand most e.
    let portal = c.in_ok-portal.ensures.complete (portal_text index t) (t.lun ++ (target_login_text at t ++ after)) refl e in
    let lun = part_cut 8 _ _ _ _ _ (splits_of 8 _ _ _ c.in_ok-lun.ensures.cases.0 c.in_ok-lun.ensures.cases.1 c.in_ok-lun.ensures.cases.2) valid.lun portal.1 in
    let login = c.in_ok-login.ensures.complete (target_login_text at t) after refl lun.1 in
    absurd (c.in_err-texts.ensures.complete at t short stand most login.0)

pub returns-clause-complete : goal.returns-clause-complete
returns-clause-complete c = λ index at t after valid short stand most e.
    let portal = c.in_ok-portal.ensures.complete (portal_text index t) (t.lun ++ (target_login_text at t ++ after)) refl e in
    let lun = part_cut 8 _ _ _ _ _ (splits_of 8 _ _ _ c.in_ok-lun.ensures.cases.0 c.in_ok-lun.ensures.cases.1 c.in_ok-lun.ensures.cases.2) valid.lun portal.1 in
    let login = c.in_ok-login.ensures.complete (target_login_text at t) after refl lun.1 in (
      target_same _ t
          (address_read _ (portal_text index t) 18 t.address _ portal.0 refl valid.address c.address_at.ensures.value)
          (number_read _ (portal_text index t) 22 t.port _ portal.0 refl valid.port c.number_at.ensures.value)
          lun.0
          (c.byte_at.ensures.value ∙ ap (λ l. slice_index l 0) login.0)
          (c.in_ok-texts.ensures.complete at t short stand most login.0),
      login.1,
    )

pub returns-clause-valid : goal.returns-clause-valid
returns-clause-valid c = record {
  address = c.address_at.ensures.fits;
  port = c.number_at.ensures.fits;
  lun = (splits_of 8 _ _ _ c.in_ok-lun.ensures.cases.0 c.in_ok-lun.ensures.cases.1 c.in_ok-lun.ensures.cases.2).len;
  chap = c.byte_at.ensures.fits;
}
