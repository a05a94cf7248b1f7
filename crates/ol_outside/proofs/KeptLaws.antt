-- The calls that are kept, one further.
use Rattle.std.proofs.Common.{◌≡◌, ℕ, zero, suc, ◌+◌, ◌<◌, List, [], ◌∷◌, length, get_or, take, drop, fold, sym, ◌∙◌, ap, subst}
use Rattle.std.proofs.lemmas.List.{take-append-drop}
use Rattle.std.proofs.lemmas.List.Sums.{fold_more, fold-append}
use Rattle.ol_ports.specs.Disk.{Call}
use Rattle.ol_outside.specs.KeptCalls.{call_of, passes, after_kept, kept_calls, FitsIn, AllFitIn}
use Rattle.ol_outside.specs.declared.kept_calls.Kept.{Kept}

-- the next of them comes after those that left nothing
pub kept_calls-more : (kept : List Kept) (i : ℕ) (k : Kept) → i < length kept → k ≡ get_or kept i k → kept_calls (take (i + 1) kept) ≡ call_of k.order ∷ passes k.passed (kept_calls (take i kept))
kept_calls-more kept i k lt is = fold_more after_kept [] kept i k lt ∙ ap (after_kept (kept_calls (take i kept))) (sym is)

pub fits-passes : (chunks : List (List ℕ)) (n : ℕ) (calls : List Call) → AllFitIn chunks (passes n calls) → AllFitIn chunks calls
fits-passes chunks zero calls fit = fit
fits-passes chunks (suc n) calls fit = fits-passes chunks n calls fit.1

fits-earlier : (chunks : List (List ℕ)) (calls : List Call) (kept : List Kept) → AllFitIn chunks (fold after_kept calls kept) → AllFitIn chunks calls
fits-earlier chunks calls [] fit = fit
fits-earlier chunks calls (k ∷ kept) fit = fits-passes chunks k.passed calls (fits-earlier chunks (after_kept calls k) kept fit).1

-- each of them fits where all do
pub fits-kept : (chunks : List (List ℕ)) (kept : List Kept) (i : ℕ) (k : Kept) → i < length kept → k ≡ get_or kept i k → AllFitIn chunks (kept_calls kept) → FitsIn chunks (call_of k.order)
fits-kept chunks kept i k lt is fit =
    let split : kept_calls kept ≡ fold after_kept (kept_calls (take (i + 1) kept)) (drop (i + 1) kept) = ap kept_calls (sym (take-append-drop (i + 1) kept)) ∙ fold-append after_kept [] (take (i + 1) kept) (drop (i + 1) kept) in
    let front = fits-earlier chunks (kept_calls (take (i + 1) kept)) (drop (i + 1) kept) (subst (AllFitIn chunks) split fit) in
    (subst (AllFitIn chunks) (kept_calls-more kept i k lt is) front).0

-- and so do the first of them
pub fits-take : (chunks : List (List ℕ)) (kept : List Kept) (i : ℕ) → AllFitIn chunks (kept_calls kept) → AllFitIn chunks (kept_calls (take i kept))
fits-take chunks kept i fit =
    fits-earlier chunks (kept_calls (take i kept)) (drop i kept) (subst (AllFitIn chunks) (ap kept_calls (sym (take-append-drop i kept)) ∙ fold-append after_kept [] (take i kept) (drop i kept)) fit)
