-- The lasting state of the machine behind the end of an archive, space by space.
use Rattle.std.specs.List.{list_any}
use Rattle.std.specs.Prelude.{Bool, List, [], false, fold, length, suc, true, zero, ℕ, ◌∷◌, ◌==◌, ◌<◌, ◌≡◌, ◌||◌}
use Rattle.std.proofs.Common.{ap, arith, refl, subst, sym, ◌∙◌, ◌≢◌}
use Rattle.std.proofs.lemmas.Bool.Decides.{nat_tests}
use Rattle.std.proofs.lemmas.List.{get_or-set_other, get_or-set_same, length-set}
use Rattle.ol_values.specs.Blocks.{Saved}
use Rattle.ol_rules.specs.Lasting.{Kept, Lasting, SpaceState, space_state, space_up, with_space}
use Rattle.ol_model.specs.ArchiveTurns.{kept_after}
use Rattle.ol_archive_turns.proofs.KnownLaws.{kept_if}

-- one space is kept
abbrev pub keep_one : ℕ → Kept → Lasting → Saved → Lasting
keep_one level kept n s = with_space s.space (kept_after level kept (space_state n s.space)) n

-- a lasting state has kept an archive of these spaces in another
pub record HasKept (level : ℕ) (kept : Kept) (spaces : List Saved) (l n : Lasting) : Type 0 where
  pub long : length n.spaces ≡ length l.spaces
  pub next : n.next_archive ≡ l.next_archive
  pub incarnation : n.incarnation ≡ l.incarnation
  pub backed : n.backed ≡ l.backed
  pub reads : (i : ℕ) → i < length l.spaces → space_state n i ≡ kept_if (list_any (λ (s : Saved). s.space == i) spaces) level kept (space_state l i)

-- to keep it twice is to keep it
twice : (level : ℕ) (kept : Kept) (s : SpaceState) → kept_after level kept (kept_after level kept s) ≡ kept_after level kept s
twice zero kept s = refl
twice (suc zero) kept s = refl
twice (suc (suc level)) kept s = refl

again : (b : Bool) (level : ℕ) (kept : Kept) (s : SpaceState) → kept_if b level kept (kept_after level kept s) ≡ kept_after level kept s
again true level kept s = twice level kept s
again false level kept s = refl

-- a space more
keeps_more : (level : ℕ) (kept : Kept) (s : Saved) (spaces : List Saved) (l n : Lasting) → HasKept level kept spaces (keep_one level kept l s) n → HasKept level kept (s ∷ spaces) l n
keeps_more level kept s spaces l n more = record {
  long = more.long ∙ length-set l.spaces s.space state;
  next = more.next;
  incarnation = more.incarnation;
  backed = more.backed;
  reads = λ i within. more.reads i (omega (arith, within, length-set l.spaces s.space state)) ∙ by_space i within (s.space == i) refl;
}
  where
    state : SpaceState
    state = kept_after level kept (space_state l s.space)

    by_space : (i : ℕ) → i < length l.spaces → (b : Bool) → (s.space == i) ≡ b
        → kept_if (list_any (λ (x : Saved). x.space == i) spaces) level kept (space_state (keep_one level kept l s) i) ≡ kept_if ((s.space == i) || list_any (λ (x : Saved). x.space == i) spaces) level kept (space_state l i)
    by_space i within true e =
        let same : s.space ≡ i = grind (arith, nat_tests, e) in
        let here : space_state (keep_one level kept l s) i ≡ kept_after level kept (space_state l i) =
        subst (λ (j : ℕ). space_state (keep_one level kept l s) j ≡ kept_after level kept (space_state l j)) same (get_or-set_same l.spaces s.space state space_up (omega (arith, within, same))) in
        ap (λ (x : SpaceState). kept_if (list_any (λ (x : Saved). x.space == i) spaces) level kept x) here
        ∙ again (list_any (λ (x : Saved). x.space == i) spaces) level kept (space_state l i)
        ∙ ap (λ (b : Bool). kept_if (b || list_any (λ (x : Saved). x.space == i) spaces) level kept (space_state l i)) (sym e)
    by_space i within false e =
        let other : i ≢ s.space = λ same. grind (arith, nat_tests, e, same) in
        ap (λ (x : SpaceState). kept_if (list_any (λ (x : Saved). x.space == i) spaces) level kept x) (get_or-set_other l.spaces s.space i state space_up other)
        ∙ ap (λ (b : Bool). kept_if (b || list_any (λ (x : Saved). x.space == i) spaces) level kept (space_state l i)) (sym e)

pub keeps : (level : ℕ) (kept : Kept) (spaces : List Saved) (l : Lasting) → HasKept level kept spaces l (fold (keep_one level kept) l spaces)
keeps level kept [] l = record { long = refl; next = refl; incarnation = refl; backed = refl; reads = λ i within. refl }
keeps level kept (s ∷ spaces) l = keeps_more level kept s spaces l (fold (keep_one level kept) l (s ∷ spaces)) (keeps level kept spaces (keep_one level kept l s))
