-- The plan on a shelf, and as the code makes it.
use Rattle.std.proofs.Common.{◌≡◌, ℕ, ◌+◌, ◌-◌, ◌^◌, ◌++◌, ◌∙◌, Bool, Err, Ok, Some, None, Option, Result, List, [], ◌∷◌, ap, arith, fold, length, map, min, refl, subst, sym, true, false}
use Rattle.std.specs.List.{flat_map, last_or}
use Rattle.std.specs.Prelude.{is_none, not, option_map, slice_get, unwrap_or}
use Rattle.std.proofs.lemmas.List.Concat.{flat_map-cons}
use Rattle.std.proofs.lemmas.List.Sums.{fold-append}
use Rattle.ol_values.specs.declared.event.Reply.{Reply}
use Rattle.ol_values.specs.declared.event.Reply.TheVariants as reply
use Rattle.ol_rules.specs.Shelf as rules
use Rattle.ol_rules.specs.Shelf.{Object, Placed, Shelf, objects}
use Rattle.ol_rules.specs.Plan as plans
use Rattle.ol_rules.specs.Plan.{plan_of, plan_to}
use Rattle.ol_object_spans.specs.declared.object.Object as told
use Rattle.ol_object_spans.specs.declared.place.Place.{Place}
use Rattle.ol_object_spans.specs.Objects.{place_told}
use Rattle.ol_plan.specs.declared.archives.Link.{Link}
use Rattle.ol_plan.specs.declared.fault.PlanFault.{PlanFault}
use Rattle.ol_plan.specs.declared.fault.PlanFault.TheVariants.{DamagedVolume, MissingLevel, MissingLog, NoMemory}
use Rattle.ol_plan.specs.declared.logs.LogSpan.{LogSpan}
use Rattle.ol_plan.specs.declared.plan.Chain as code
use Rattle.ol_plan.specs.declared.plan.Plan.{Plan}
use Rattle.ol_plan.specs.Archives.{index_of_link}
use Rattle.ol_plan.specs.Chains.{Chain, IsCause, chain, chains, cons_chain, last_of, least_low, lower}
use Rattle.ol_plan.specs.Damage.{bad_of_links, earlier, first_bad}
use Rattle.ol_plan.specs.Drafts.{Archives, Draft, IsDraftTold, archives_of, damage_in, draft_with, drafted, drafted_with, fault_in, fault_with, links_in}
use Rattle.ol_plan.specs.Logs.{index_of_log, logs, runs, short}
use Rattle.ol_plan.specs.Planned.{AreAt, AreChains, IsPlan, IsPlanOf, IsRefusal, IsReply, planned}
use Rattle.ol_plan.proofs.CountingLaws.{told_of}
use Rattle.ol_plan.proofs.DamageLaws.{bad_told, both_rise, links_bad, logs_bad, pairs_rise, with_object}
use Rattle.ol_plan.proofs.LinkLaws.{IsChain, SameChain, as_pair, chain_same}
use Rattle.ol_plan.proofs.Lists.{get_of_map, length_of_map, map_twice}
use Rattle.ol_plan.proofs.PairLaws.{AllAt, Pair, objects_at, value}
use Rattle.ol_plan.proofs.PlaceLaws.{AllRise}
use Rattle.ol_plan.proofs.TakenLaws.{are_logs, best_of, best_of_at, logs_for_are, runs_are, short_is}

-- ---- chains

abbrev pub IsChains : List Object → List Chain → List plans.Chain → Type 0
IsChains all [] [] = Unit {0}
IsChains all [] (d ∷ ds) = ⊥
IsChains all (c ∷ cs) [] = ⊥
IsChains all (c ∷ cs) (d ∷ ds) = (c.space ≡ d.space) × (IsChain all c.space c.links d.archives × IsChains all cs ds)

abbrev SameChains : List Object → Result (List Chain) PlanFault → Result (List plans.Chain) Reply → Type 0
SameChains all (Ok cs) (Ok ds) = IsChains all cs ds
SameChains all (Ok cs) (Err r) = ⊥
SameChains all (Err f) (Ok ds) = ⊥
SameChains all (Err f) (Err r) = IsReply r f

cons_same : (all : List Object) (s : ℕ) (one : Result (List Link) PlanFault) (other : Result (List Object) Reply) (rest : Result (List Chain) PlanFault) (behind : Result (List plans.Chain) Reply)
    → SameChain all s one other → SameChains all rest behind → SameChains all (cons_chain s one rest) (plans.cons_chain s other behind)
cons_same all s (Ok links) (Ok archives) (Ok cs) (Ok ds) same more = (refl, (same, more))
cons_same all s (Ok links) (Ok archives) (Ok cs) (Err r) same more = absurd more
cons_same all s (Ok links) (Ok archives) (Err f) (Ok ds) same more = absurd more
cons_same all s (Ok links) (Ok archives) (Err f) (Err r) same more = more
cons_same all s (Ok links) (Err r) rest behind same more = absurd same
cons_same all s (Err f) (Ok archives) rest behind same more = absurd same
cons_same all s (Err f) (Err r) rest behind same more = same

chains_same : (shelf : Shelf) (end_ : ℕ) (spaces : List ℕ) → SameChains (objects shelf) (chains (told_of shelf) end_ spaces) (plans.chains_of shelf end_ spaces)
chains_same shelf end_ [] = tt
chains_same shelf end_ (s ∷ spaces) =
    cons_same (objects shelf) s (chain (told_of shelf) end_ s) (plans.chain_of shelf end_ s) (chains (told_of shelf) end_ spaces) (plans.chains_of shelf end_ spaces) (chain_same shelf end_ s)
    (chains_same shelf end_ spaces)

-- ---- the low

last_or_map : {X Y : Type 0} (f : X → Y) (o : Option X) (xs : List X) → last_or (option_map f o) (map f xs) ≡ option_map f (last_or o xs)
last_or_map f o [] = refl
last_or_map f o (x ∷ xs) = last_or_map f (Some x) xs

last_get : (x : Pair) (xs : List Pair) → slice_get (x ∷ xs) (length xs) ≡ last_or (Some x) xs
last_get x [] = refl
last_get x (y ∷ xs) = last_get y xs

last_is : (xs : List Pair) → slice_get xs (length xs - 1) ≡ last_or None xs
last_is [] = refl
last_is (x ∷ xs) = ap (slice_get (x ∷ xs)) (let e : length (x ∷ xs) - 1 ≡ length xs = omega arith in e) ∙ last_get x xs

lower_same : (space low : ℕ) (o : Option Pair) → lower low (option_map (as_pair space) o) ≡ plans.lower low (option_map value o)
lower_same space low None = refl
lower_same space low (Some p) = refl

lower_pairs : (space low : ℕ) (ps : List Pair) → lower low (last_of (map (as_pair space) ps)) ≡ plans.lower low (last_or None (map value ps))
lower_pairs space low ps =
    ap (lower low) (ap (λ n. slice_get (map (as_pair space) ps) (n - 1)) (length_of_map (as_pair space) ps) ∙ get_of_map (as_pair space) ps (length ps - 1) ∙ ap (option_map (as_pair space)) (last_is ps))
    ∙ lower_same space low (last_or None ps)
    ∙ ap (plans.lower low) (sym (last_or_map value None ps))

lower_chain : (all : List Object) (space low : ℕ) (links : List Link) (archives : List Object) → IsChain all space links archives → lower low (last_of links) ≡ plans.lower low (last_or None archives)
lower_chain all space low links archives is =
    ap (λ l. lower low (last_of l)) is.are_links ∙ lower_pairs space low is.pairs ∙ ap (λ l. plans.lower low (last_or None l)) (sym is.are_objects)

low_same : (all : List Object) (low : ℕ) (cs : List Chain) (ds : List plans.Chain) → IsChains all cs ds
    → fold (λ low (c : Chain). lower low (last_of c.links)) low cs ≡ fold (λ low (d : plans.Chain). plans.lower low (plans.last_of_chain d)) low ds
low_same all low [] [] is = refl
low_same all low [] (d ∷ ds) is = absurd is
low_same all low (c ∷ cs) [] is = absurd is
low_same all low (c ∷ cs) (d ∷ ds) is =
    ap (λ n. fold (λ low (c : Chain). lower low (last_of c.links)) n cs) (lower_chain all c.space low c.links d.archives is.1.0)
    ∙ low_same all (plans.lower low (plans.last_of_chain d)) cs ds is.1.1

-- ---- damage

abbrev archives_in : plans.Chain → List Object
archives_in d = d.archives

chain_bad : (all : List Object) (best : Option Place) (space : ℕ) (links : List Link) (archives : List Object) → IsChain all space links archives → bad_of_links best links ≡ fold with_object best archives
chain_bad all best space links archives is = ap (bad_of_links best) is.are_links ∙ links_bad space best is.pairs ∙ ap (fold with_object best) (sym is.are_objects)

chains_bad : (all : List Object) (best : Option Place) (cs : List Chain) (ds : List plans.Chain) → IsChains all cs ds
    → fold (λ b (c : Chain). bad_of_links b c.links) best cs ≡ fold with_object best (flat_map archives_in ds)
chains_bad all best [] [] is = refl
chains_bad all best [] (d ∷ ds) is = absurd is
chains_bad all best (c ∷ cs) [] is = absurd is
chains_bad all best (c ∷ cs) (d ∷ ds) is =
    ap (λ b. fold (λ b (c : Chain). bad_of_links b c.links) b cs) (chain_bad all best c.space c.links d.archives is.1.0)
    ∙ chains_bad all (fold with_object best d.archives) cs ds is.1.1
    ∙ sym (ap (fold with_object best) (flat_map-cons archives_in d ds) ∙ fold-append with_object best d.archives (flat_map archives_in ds))

chains_rise : (shelf : Shelf) (cs : List Chain) (ds : List plans.Chain) → IsChains (objects shelf) cs ds → AllRise (flat_map archives_in ds)
chains_rise shelf [] [] is = tt
chains_rise shelf [] (d ∷ ds) is = absurd is
chains_rise shelf (c ∷ cs) [] is = absurd is
chains_rise shelf (c ∷ cs) (d ∷ ds) is =
    let one : IsChain (objects shelf) c.space c.links d.archives = is.1.0 in
    subst AllRise (sym (flat_map-cons archives_in d ds)) (
    both_rise d.archives (flat_map archives_in ds) (subst AllRise (sym one.are_objects) (pairs_rise shelf one.pairs one.at)) (chains_rise shelf cs ds is.1.1)
    )

-- ---- drafts

-- a draft that tells these chains, and the logs that they need
record IsDraft (shelf : Shelf) (end_ : ℕ) (d : Draft) (ds : List plans.Chain) : Type 0 where
  pub chains : IsChains (objects shelf) d.chains ds
  pub low : d.low ≡ plans.least_low end_ ds
  pub logs : d.logs ≡ runs (logs (told_of shelf)) (plans.least_low end_ ds) end_
  pub missing : d.missing ≡ plans.short_of shelf (plans.least_low end_ ds) end_

draft_is : (shelf : Shelf) (end_ : ℕ) (cs : List Chain) (ds : List plans.Chain) → IsChains (objects shelf) cs ds → IsDraft shelf end_ (draft_with (told_of shelf) end_ cs) ds
draft_is shelf end_ cs ds is =
    let same : least_low end_ cs ≡ plans.least_low end_ ds = low_same (objects shelf) (end_ + 1) cs ds is in
    record {
      chains = is;
      low = same;
      logs = ap (λ n. runs (logs (told_of shelf)) n end_) same;
      missing = ap (λ n. short (logs (told_of shelf)) n end_) same ∙ short_is shelf (plans.least_low end_ ds) end_;
    }

-- the plan of chains
abbrev plan_for : Shelf → ℕ → List plans.Chain → plans.Plan
plan_for shelf end_ ds = record {
  end_ = end_;
  low = plans.least_low end_ ds;
  chains = ds;
  logs = plans.logs_for shelf (plans.least_low end_ ds) end_;
  short = plans.short_of shelf (plans.least_low end_ ds) end_;
}

bad_same : (shelf : Shelf) (end_ : ℕ) (d : Draft) (ds : List plans.Chain) → IsDraft shelf end_ d ds
    → first_bad d.chains d.logs ≡ option_map place_told (plans.first_bad (plans.used_by (plan_for shelf end_ ds)))
bad_same shelf end_ d ds is =
    let low : ℕ = plans.least_low end_ ds in
    let ps : List Pair = best_of shelf low end_ in
    let at : AllAt (objects shelf) ps = best_of_at shelf low end_ in
    let found : List Object = plans.logs_for shelf low end_ in
    let rise : AllRise found = subst AllRise (sym (logs_for_are shelf low end_)) (pairs_rise shelf ps at) in
    ap (λ b. fold (λ b (s : LogSpan). earlier b s.bad) b d.logs) (chains_bad (objects shelf) None d.chains ds is.chains)
    ∙ ap (fold (λ b (s : LogSpan). earlier b s.bad) (fold with_object None (flat_map archives_in ds))) (is.logs ∙ runs_are shelf low end_)
    ∙ logs_bad shelf (objects shelf) (fold with_object None (flat_map archives_in ds)) ps at
    ∙ ap (fold with_object (fold with_object None (flat_map archives_in ds))) (sym (logs_for_are shelf low end_))
    ∙ sym (fold-append with_object None (flat_map archives_in ds) found)
    ∙ sym (bad_told (flat_map archives_in ds ++ found) (both_rise (flat_map archives_in ds) found (chains_rise shelf d.chains ds is.chains) rise))

-- ---- answers

reply_refused : (r : Reply) (f : PlanFault) → IsReply r f → IsRefusal (Err r) f
reply_refused r NoMemory is = tt
reply_refused r (MissingLevel space level archive) is = is
reply_refused r (MissingLog position) is = is
reply_refused r (DamagedVolume drive volume block) is = is

abbrev as_fault : Place → PlanFault
as_fault p = DamagedVolume p.drive p.volume p.block

bad_refused : (p : plans.Plan) (bad : Option Placed) (f : PlanFault) → option_map as_fault (option_map place_told bad) ≡ Some f → IsRefusal (plans.sound_plan p bad) f
bad_refused p None f e = absurd (cc)
bad_refused p (Some b) f e = reply_refused (plans.damage b) f (let s : f ≡ DamagedVolume b.drive b.volume b.block = cc in s)

no_bad : (all : List Object) (p : plans.Plan) (bad : Option Placed) (q : Plan) → option_map as_fault (option_map place_told bad) ≡ None → IsPlanOf all p q → IsPlan all (plans.sound_plan p bad) q
no_bad all p None q e is = is
no_bad all p (Some b) q e is = absurd (cc)

damage_same : (shelf : Shelf) (end_ : ℕ) (d : Draft) (ds : List plans.Chain) → IsDraft shelf end_ d ds
    → damage_in d ≡ option_map as_fault (option_map place_told (plans.first_bad (plans.used_by (plan_for shelf end_ ds))))
damage_same shelf end_ d ds is = ap (option_map as_fault) (bad_same shelf end_ d ds is)

index_pairs : (space : ℕ) (ps : List Pair) → map index_of_link (map (as_pair space) ps) ≡ map (λ (p : Pair). p.0) ps
index_pairs space ps = map_twice index_of_link (as_pair space) ps

at_chain : (all : List Object) (space : ℕ) (indexes : List ℕ) (links : List Link) (archives : List Object) → indexes ≡ map index_of_link links → IsChain all space links archives → AreAt all indexes archives
at_chain all space indexes links archives e is =
    ap (map (slice_get all)) (e ∙ ap (map index_of_link) is.are_links ∙ index_pairs space is.pairs)
    ∙ objects_at all is.pairs is.at
    ∙ ap (map (λ (o : Object). Some o)) (sym is.are_objects)

are_chains : (all : List Object) (qs : List code.Chain) (cs : List Chain) (ds : List plans.Chain) → map archives_of qs ≡ map links_in cs → IsChains all cs ds → AreChains all qs ds
are_chains all [] [] [] e is = tt
are_chains all [] [] (d ∷ ds) e is = absurd is
are_chains all [] (c ∷ cs) ds e is = absurd (cc)
are_chains all (q ∷ qs) [] ds e is = absurd (cc)
are_chains all (q ∷ qs) (c ∷ cs) [] e is = absurd is
are_chains all (q ∷ qs) (c ∷ cs) (d ∷ ds) e is =
    let one : archives_of q ≡ links_in c = cc in
    let rest : map archives_of qs ≡ map links_in cs = cc in
    (ap (λ (a : Archives). a.space) one ∙ is.0, (at_chain all c.space q.archives.items c.links d.archives (ap (λ (a : Archives). a.indexes) one) is.1.0, are_chains all qs cs ds rest is.1.1))

plan_is : (shelf : Shelf) (end_ : ℕ) (d : Draft) (ds : List plans.Chain) (q : Plan) → IsDraft shelf end_ d ds → IsDraftTold end_ d q → IsPlanOf (objects shelf) (plan_for shelf end_ ds) q
plan_is shelf end_ d ds q is told_ = record {
  last = told_.last;
  low = told_.low ∙ ap (λ n. min n (2 ^ 64 - 1)) is.low;
  chains = are_chains (objects shelf) q.chains.items d.chains ds told_.chains is.chains;
  logs = are_logs shelf (plans.least_low end_ ds) end_ q.logs.items (told_.logs ∙ ap (map index_of_log) is.logs);
  missing = told_.missing ∙ is.missing;
}

-- ---- a whole plan, and one up to an end

-- what follows where there are chains
record HasChains (shelf : Shelf) (end_ : ℕ) (other : Result (List plans.Chain) Reply) (d : Draft) : Type 0 where
  pub found : List plans.Chain
  pub is : other ≡ Ok found
  pub draft : IsDraft shelf end_ d found

has_chains : (shelf : Shelf) (end_ : ℕ) (one : Result (List Chain) PlanFault) (other : Result (List plans.Chain) Reply) (d : Draft) → SameChains (objects shelf) one other
    → drafted_with (told_of shelf) end_ one ≡ Ok d → HasChains shelf end_ other d
has_chains shelf end_ (Ok cs) (Ok ds) d same e = record {
  found = ds;
  is = refl;
  draft = (let s : draft_with (told_of shelf) end_ cs ≡ d = cc in subst (λ x. IsDraft shelf end_ x ds) s (draft_is shelf end_ cs ds same));
}
has_chains shelf end_ (Ok cs) (Err r) d same e = absurd same
has_chains shelf end_ (Err f) (Ok ds) d same e = absurd same
has_chains shelf end_ (Err f) (Err r) d same e = absurd (cc)

abbrev whole_with : Shelf → ℕ → List plans.Chain → Option ℕ → Result plans.Plan Reply
whole_with shelf end_ ds missing = elim missing [ None ↦ plans.plan_with shelf end_ (Ok ds) | Some position ↦ Err (reply.MissingLog position) ]

whole_refused : (shelf : Shelf) (end_ : ℕ) (ds : List plans.Chain) (d : Draft) (missing : Option ℕ) (f : PlanFault) → IsDraft shelf end_ d ds → fault_with d true missing ≡ Some f
    → IsRefusal (whole_with shelf end_ ds missing) f
whole_refused shelf end_ ds d None f is e =
    bad_refused (plan_for shelf end_ ds) (plans.first_bad (plans.used_by (plan_for shelf end_ ds))) f (sym (damage_same shelf end_ d ds is) ∙ e)
whole_refused shelf end_ ds d (Some position) f is e = reply_refused (reply.MissingLog position) f (let s : f ≡ MissingLog position = cc in s)

whole_sound : (shelf : Shelf) (end_ : ℕ) (ds : List plans.Chain) (d : Draft) (missing : Option ℕ) (q : Plan) → IsDraft shelf end_ d ds → fault_with d true missing ≡ None → IsDraftTold end_ d q
    → IsPlan (objects shelf) (whole_with shelf end_ ds missing) q
whole_sound shelf end_ ds d None q is e told_ =
    no_bad (objects shelf) (plan_for shelf end_ ds) (plans.first_bad (plans.used_by (plan_for shelf end_ ds))) q (sym (damage_same shelf end_ d ds is) ∙ e) (plan_is shelf end_ d ds q is told_)
whole_sound shelf end_ ds d (Some position) q is e told_ = absurd (cc)

in_part : (d : Draft) (missing : Option ℕ) → fault_with d false missing ≡ damage_in d
in_part d None = refl
in_part d (Some position) = refl

refused_by : (all : List Object) (one : Result (List Chain) PlanFault) (other : Result (List plans.Chain) Reply) (l : List told.Object) (end_ : ℕ) (f : PlanFault) → SameChains all one other
    → drafted_with l end_ one ≡ Err f → (answer : Result (List plans.Chain) Reply → Result plans.Plan Reply) → ((r : Reply) → answer (Err r) ≡ Err r) → IsRefusal (answer other) f
refused_by all (Ok cs) other l end_ f same e answer passes = absurd (cc)
refused_by all (Err g) (Ok ds) l end_ f same e answer passes = absurd same
refused_by all (Err g) (Err r) l end_ f same e answer passes =
    let s : g ≡ f = cc in
    subst (λ x. IsRefusal x f) (sym (passes r)) (reply_refused r f (subst (IsReply r) s same))

lacks : (shelf : Shelf) (spaces : List ℕ) (end_ : Option ℕ) (f : PlanFault) → drafted (told_of shelf) (unwrap_or end_ (rules.end_of shelf)) spaces ≡ Err f → IsRefusal (planned shelf spaces end_) f
unfolding plan_of plan_to
lacks shelf spaces None f e =
    refused_by (objects shelf) _ _ (told_of shelf) (rules.end_of shelf) f (chains_same shelf (rules.end_of shelf) spaces) e (plans.plan_at shelf (rules.end_of shelf)) (λ r. refl)
lacks shelf spaces (Some end_) f e = refused_by (objects shelf) _ _ (told_of shelf) end_ f (chains_same shelf end_ spaces) e (plans.plan_with shelf end_) (λ r. refl)

caused : (shelf : Shelf) (spaces : List ℕ) (end_ : Option ℕ) (f : PlanFault) → IsCause (drafted (told_of shelf) (unwrap_or end_ (rules.end_of shelf)) spaces) f → IsRefusal (planned shelf spaces end_) f
caused shelf spaces end_ NoMemory why = tt
caused shelf spaces end_ (MissingLevel space level archive) why = lacks shelf spaces end_ (MissingLevel space level archive) why
caused shelf spaces end_ (MissingLog position) why = lacks shelf spaces end_ (MissingLog position) why
caused shelf spaces end_ (DamagedVolume drive volume block) why = lacks shelf spaces end_ (DamagedVolume drive volume block) why

fails : (shelf : Shelf) (spaces : List ℕ) (end_ : Option ℕ) (d : Draft) (f : PlanFault) → drafted (told_of shelf) (unwrap_or end_ (rules.end_of shelf)) spaces ≡ Ok d → fault_in (is_none end_) d ≡ Some f
    → IsRefusal (planned shelf spaces end_) f
unfolding plan_of plan_to
fails shelf spaces None d f e fault =
    let has = has_chains shelf (rules.end_of shelf) _ _ d (chains_same shelf (rules.end_of shelf) spaces) e in
    subst (λ r. IsRefusal (plans.plan_at shelf (rules.end_of shelf) r) f) (sym has.is) (
    whole_refused shelf (rules.end_of shelf) has.found d (plans.short_of shelf (plans.least_low (rules.end_of shelf) has.found) (rules.end_of shelf)) f has.draft (
    sym (ap (fault_with d true) has.draft.missing) ∙ fault
    )
    )
fails shelf spaces (Some end_) d f e fault =
    let has = has_chains shelf end_ _ _ d (chains_same shelf end_ spaces) e in
    subst (λ r. IsRefusal (plans.plan_with shelf end_ r) f) (sym has.is) (
    bad_refused (plan_for shelf end_ has.found) (plans.first_bad (plans.used_by (plan_for shelf end_ has.found))) f (sym (in_part d d.missing ∙ damage_same shelf end_ d has.found has.draft) ∙ fault)
    )

holds : (shelf : Shelf) (spaces : List ℕ) (end_ : Option ℕ) (d : Draft) (q : Plan) → drafted (told_of shelf) (unwrap_or end_ (rules.end_of shelf)) spaces ≡ Ok d → fault_in (is_none end_) d ≡ None
    → IsDraftTold (unwrap_or end_ (rules.end_of shelf)) d q → IsPlan (objects shelf) (planned shelf spaces end_) q
unfolding plan_of plan_to
holds shelf spaces None d q e fault told_ =
    let has = has_chains shelf (rules.end_of shelf) _ _ d (chains_same shelf (rules.end_of shelf) spaces) e in
    subst (λ r. IsPlan (objects shelf) (plans.plan_at shelf (rules.end_of shelf) r) q) (sym has.is) (
    whole_sound shelf (rules.end_of shelf) has.found d (plans.short_of shelf (plans.least_low (rules.end_of shelf) has.found) (rules.end_of shelf)) q has.draft (
    sym (ap (fault_with d true) has.draft.missing) ∙ fault
    ) told_
    )
holds shelf spaces (Some end_) d q e fault told_ =
    let has = has_chains shelf end_ _ _ d (chains_same shelf end_ spaces) e in
    subst (λ r. IsPlan (objects shelf) (plans.plan_with shelf end_ r) q) (sym has.is) (
    no_bad (objects shelf) (plan_for shelf end_ has.found) (plans.first_bad (plans.used_by (plan_for shelf end_ has.found))) q
    (sym (in_part d d.missing ∙ damage_same shelf end_ d has.found has.draft) ∙ fault) (plan_is shelf end_ d has.found q has.draft told_)
    )

-- ---- with the catalog and the last position by equations

pub is_refused : (shelf : Shelf) (spaces : List ℕ) (end_ : Option ℕ) (l : List told.Object) (last : ℕ) (f : PlanFault) → l ≡ told_of shelf → last ≡ unwrap_or end_ (rules.end_of shelf)
    → IsCause (drafted l last spaces) f → IsRefusal (planned shelf spaces end_) f
is_refused shelf spaces end_ l last f is at why =
    caused shelf spaces end_ f (subst (λ n. IsCause (drafted (told_of shelf) n spaces) f) at (subst (λ t. IsCause (drafted t last spaces) f) is why))

pub has_fault : (shelf : Shelf) (spaces : List ℕ) (end_ : Option ℕ) (l : List told.Object) (last : ℕ) (d : Draft) (f : PlanFault) → l ≡ told_of shelf → last ≡ unwrap_or end_ (rules.end_of shelf)
    → drafted l last spaces ≡ Ok d → fault_in (is_none end_) d ≡ Some f → IsRefusal (planned shelf spaces end_) f
has_fault shelf spaces end_ l last d f is at e fault =
    fails shelf spaces end_ d f (sym (ap (λ t. drafted t last spaces) is ∙ ap (λ n. drafted (told_of shelf) n spaces) at) ∙ e) fault

pub has_plan : (shelf : Shelf) (spaces : List ℕ) (end_ : Option ℕ) (l : List told.Object) (last : ℕ) (d : Draft) (q : Plan) → l ≡ told_of shelf → last ≡ unwrap_or end_ (rules.end_of shelf)
    → drafted l last spaces ≡ Ok d → fault_in (is_none end_) d ≡ None → IsDraftTold last d q → IsPlan (objects shelf) (planned shelf spaces end_) q
has_plan shelf spaces end_ l last d q is at e fault told_ =
    holds shelf spaces end_ d q (sym (ap (λ t. drafted t last spaces) is ∙ ap (λ n. drafted (told_of shelf) n spaces) at) ∙ e) fault (subst (λ n. IsDraftTold n d q) at told_)

pub none_test : (r s : Bool) → s ≡ not r → r ≡ not s
none_test true s e = sym (ap not e)
none_test false s e = sym (ap not e)
