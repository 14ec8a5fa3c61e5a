-- No two outcomes satisfy the contract of a public function of `kept`, each contract taken as the source states it: it says what the result equals, and
-- each piece at exit, outright or by its layout (Determined.antt). Assumes nothing.
use mathlib.Core.Path.{sym, ◌∙◌, subst}
use denote.RattleType.{RattleType}
use denote.Param.Laws.{Laws, IsCopy}
use mir.Syntax.{Dict}
use Rattle.std.specs.declared.clone.Clone.{Ghosts}
use Rattle.outcome.specs.Outcome.{OneResult, OneLeft}
use Rattle.kept.specs.Lent.{pieces_of}
use Rattle.kept.specs.Access.{AfterAccess}
use Rattle.kept.proofs.Determined.{same_pieces, access_determines}
use Rattle.kept.proofs.KeptLists.empty.Reads as empty_contract
use Rattle.kept.proofs.KeptLists.clear.Reads as clear_contract
use Rattle.kept.proofs.KeptLists.access.Reads as access_contract
use Rattle.kept.proofs.clear_piece.Reads as clear_piece_contract
use Rattle.kept.proofs.NotKept.code.Reads as code_contract

pub record NoTwoOutcomes : Type 2 where
  pub empty : OneLeft empty_contract.Post (λ κ s. pieces_of s.0.now)
  pub empty_slots : OneLeft empty_contract.Post (λ κ s. s.0.now.slots)
  pub clear : OneLeft clear_contract.Post (λ κ s. pieces_of s.0.now)
  pub clear_slots : OneLeft clear_contract.Post (λ κ s. s.0.now.slots)
  pub clear_piece : (T : RattleType) (laws : Laws T) (copies : IsCopy T) (ghosts : Ghosts T.Denot) (dict : Dict)
      → OneLeft (clear_piece_contract.Post T laws copies ghosts dict) (λ κ s. s.0.now)
  pub access : OneResult access_contract.Post
  pub access_pieces : OneLeft access_contract.Post (λ κ s. pieces_of s.0.now)
  pub access_slots : OneLeft access_contract.Post (λ κ s. s.0.now.slots)
  pub code : OneResult code_contract.Post

pub no_two_outcomes : NoTwoOutcomes
no_two_outcomes = record {
  empty = λ κ a x y s s' p q.
      same_pieces (p.1.0 ∙ sym q.1.0) (p.1.1.0 ∙ sym q.1.1.0) (p.1.1.1.0.0 ∙ sym q.1.1.1.0.0) (p.1.1.1.0.1 ∙ sym q.1.1.1.0.1)
      (p.1.1.1.0.2 ∙ sym q.1.1.1.0.2);
  empty_slots = λ κ a x y s s' p q. p.0 ∙ sym q.0;
  clear = λ κ a x y s s' p q.
      same_pieces (p.0 ∙ sym q.0) (p.1.0 ∙ sym q.1.0) (p.1.1.0 ∙ sym q.1.1.0) (p.1.1.1.0 ∙ sym q.1.1.1.0)
      (p.1.1.1.1.0 ∙ sym q.1.1.1.1.0);
  clear_slots = λ κ a x y s s' p q. p.1.1.1.1.1.0 ∙ sym q.1.1.1.1.1.0;
  clear_piece = λ T laws copies ghosts dict κ a x y s s' p q. p ∙ sym q;
  access = λ κ a x y s s' p q. p.0 ∙ sym q.0;
  access_pieces = λ κ a x y s s' p q.
      (access_determines _ _ _ _ _ _ _ _ _ x p.1.1.0 (subst (AfterAccess _ _ _ _ _ _ _) (q.0 ∙ sym p.0) q.1.1.0)).0;
  access_slots = λ κ a x y s s' p q.
      (access_determines _ _ _ _ _ _ _ _ _ x p.1.1.0 (subst (AfterAccess _ _ _ _ _ _ _) (q.0 ∙ sym p.0) q.1.1.0)).1;
  code = λ κ a x y s s' p q. p ∙ sym q;
}
