-- From what the searches find to the judge's outcome and its reply.
use Prim.Native.Nat.{ℕ, ◌-◌, ◌<◌, ◌≤◌}
use mathlib.Core.Path.{◌≡◌, refl, sym, ap, ap₂, ◌∙◌, subst}
use mathlib.Core.Bool.{Bool, true, false, not}
use mathlib.Core.List.{List}
use mathlib.Core.Option.{Option, none, some}
use native.Mathlib.Omega.{arith}
use lib.ListN.{length, get_or}
use Rattle.meaning.specs.Tests.{agree, at, named, choose, lowest, ◌is◌}
use Rattle.meaning.specs.Looks.{aim}
use Rattle.meaning.specs.Policy.{Policy}
use Rattle.meaning.specs.Papers.{Entry, Dossier, Line, answer, witness, proof}
use Rattle.meaning.specs.Rules.{line_follows}
use Rattle.meaning.specs.Verdict.{Outcome, opaque, detectable, probe_differs, secret_kept, line_fails, last_not_empty, tried, probe_agrees, last_empty, decide, judge, about, round_in}
use Rattle.promise.specs.Place.{many, place, Starts, filled}
use Rattle.promise.specs.Clause.{credential}
use Rattle.promise.specs.Formula.{entry}
use Rattle.promise.specs.Line.{literal, line_at, line}
use Rattle.promise.specs.Thing.{entry_next, line_next}
use Rattle.promise.specs.Layout.{dossier_at, ProbeStarts}
use Rattle.promise.specs.declared.Layout.{Layout}
use Rattle.promise.proofs.Place.{many_at, many_length}
use Rattle.reply.specs.Answer.{accepted}
use Rattle.reply.specs.declared.Reply.{Reply}
use Rattle.reply.specs.declared.Paper.TheVariants as paper
use Rattle.reply.specs.declared.Verdict.TheVariants as said
use Rattle.evaluation.specs.Which.{policy_at, joined_at}
use Rattle.evaluation.specs.Answer.{answer_of, round_of}
use Rattle.evaluation.specs.declared.Which.TheVariants.{Tried}
use Rattle.lines.specs.Named.{told}
use Rattle.lines.specs.Supposing.{untold}
use Rattle.lines.proofs.Values.{told_untold}
use Rattle.std.specs.Prelude as maybe
use Rattle.verdict.specs.Told.{showing, reply_at, numbered, rounds_at, Says}
use Rattle.verdict.specs.Trial.{rounds_there}
use Rattle.verdict.proofs.Lowest.{lowest_below}

-- ---- what a search answers

module _ {x : Option ℕ} {f : maybe.Option ℕ} (e : f ≡ untold x) where
  pub fault_at : {j : ℕ} → f ≡ maybe.Some j → x ≡ some j
  fault_at h = sym (told_untold x) ∙ ap told (sym e ∙ h)

  pub fault_none : f ≡ maybe.None → x ≡ none
  fault_none h = sym (told_untold x) ∙ ap told (sym e ∙ h)

-- ---- a witness

module _ (d : List ℕ) (o : Layout) (w : List ℕ) (k : ℕ) where
  abbrev D : Dossier
  D = dossier_at d o

  abbrev W : Policy
  W = many (credential o.atoms) w 2 k

  -- r is the reply for the outcome x, and u what the table then holds, which held t
  abbrev SaysWitness : Outcome → List ℕ → Reply → List ℕ → Type 0
  SaysWitness x t r u = Says d o w k (witness (many (credential o.atoms) w 2 k)) x t r u

  -- what the entry at p is explained with
  abbrev Explained : ℕ → List ℕ → List ℕ → Type 0
  Explained p t u = u ≡ filled (round_of d o w (Tried k) p) o.atoms t

  module _ {t : List ℕ} {r : Reply} {u : List ℕ} where
    says_probe : (j : ℕ) → j < o.nprobes → (probes : List ℕ) → ProbeStarts d o probes → r ≡ showing 14 paper.Dossier entry_next d (get_or probes j 0) → Explained (place (entry_next d) o.probes j) t u → SaysWitness (probe_differs j) t r u
    unfolding reply_at rounds_at numbered about round_in round_of joined_at policy_at dossier_at
    says_probe j h probes s g x =
        record {
          reply = g ∙ ap (λ (p : ℕ). showing 14 paper.Dossier entry_next d p) (s.each j h);
          table = x ∙ ap (λ (y : Option Entry). numbered o.atoms D W y t) (sym (many_at (entry o.atoms o.ncreds) d o.probes o.nprobes j h));
        }

    says_secret : r ≡ showing 15 paper.Dossier entry_next d o.secret → Explained o.secret t u → SaysWitness secret_kept t r u
    unfolding reply_at rounds_at numbered about round_in round_of joined_at policy_at dossier_at
    says_secret g x = record { reply = g; table = x }

    says_opaque : r ≡ accepted said.Opaque → u ≡ t → SaysWitness opaque t r u
    unfolding reply_at rounds_at numbered about
    says_opaque g x = record { reply = g; table = x }

  -- the outcome, by the lowest probe that differs, and by the secret's answer
  abbrev by_secret : Outcome
  by_secret = choose (agree (answer (dossier_at d o) (tried (dossier_at d o) (many (credential o.atoms) w 2 k)) (dossier_at d o).secret) (not (aim (dossier_at d o)))) opaque secret_kept

  module _ {f : maybe.Option ℕ} (e : f ≡ untold (lowest (probe_agrees (dossier_at d o) (many (credential o.atoms) w 2 k)) 0 o.nprobes)) where
    judged_by : {x : Option ℕ} → lowest (probe_agrees D W) 0 o.nprobes ≡ x → decide x probe_differs (agree (answer D (tried D W) D.secret) (not (aim D))) opaque secret_kept ≡ judge D (witness W)
    unfolding judge dossier_at
    judged_by h = sym (ap (λ (n : ℕ). decide (lowest (probe_agrees D W) 0 n) probe_differs (agree (answer D (tried D W) D.secret) (not (aim D))) opaque secret_kept) (many_length (entry o.atoms o.ncreds) d o.probes o.nprobes) ∙ ap (λ (x : Option ℕ). decide x probe_differs (agree (answer D (tried D W) D.secret) (not (aim D))) opaque secret_kept) h)

    pub probe_below : {j : ℕ} → f ≡ maybe.Some j → j < o.nprobes
    probe_below h = lowest_below _ _ _ (fault_at e h)

    module _ {t : List ℕ} {r : Reply} {u : List ℕ} where
      pub witness_differs : {j : ℕ} (probes : List ℕ) → ProbeStarts d o probes → f ≡ maybe.Some j → r ≡ showing 14 paper.Dossier entry_next d (get_or probes j 0) → u ≡ rounds_there d o w k f t
          → SaysWitness (judge (dossier_at d o) (witness (many (credential o.atoms) w 2 k))) t r u
      unfolding decide rounds_there
      witness_differs {j} probes s h g x =
          subst (λ (y : Outcome). SaysWitness y t r u) (judged_by (fault_at e h)) (says_probe j (probe_below h) probes s g (x ∙ ap (λ (y : maybe.Option ℕ). rounds_there d o w k y t) h))

      pub witness_alike : {v : List ℕ} → f ≡ maybe.None → v ≡ rounds_there d o w k f t → SaysWitness by_secret v r u
          → SaysWitness (judge (dossier_at d o) (witness (many (credential o.atoms) w 2 k))) t r u
      unfolding decide rounds_there
      witness_alike h x g =
          subst (λ (y : Outcome). SaysWitness y t r u) (judged_by (fault_none e h)) (subst (λ (z : List ℕ). SaysWitness by_secret z r u) (x ∙ ap (λ (y : maybe.Option ℕ). rounds_there d o w k y t) h) g)

  opposite : (b goal : Bool) → agree b (not goal) ≡ not (agree b goal)
  unfolding agree
  opposite true goal = refl
  opposite false true = refl
  opposite false false = refl

  -- the secret, by its answer in the policy tried and its value in the dossier's own
  module _ {b goal : Bool} (e : b ≡ answer_of d o w (Tried k) o.secret) (f : goal ≡ aim (dossier_at d o)) where
    secret_by : {v : Bool} → agree b goal ≡ v → choose (not v) opaque secret_kept ≡ by_secret
    unfolding answer_of policy_at dossier_at
    secret_by h = ap (λ (v : Bool). choose v opaque secret_kept) (ap not (sym h) ∙ sym (opposite b goal)) ∙ ap₂ (λ (x y : Bool). choose (agree x (not y)) opaque secret_kept) e f

    module _ {t : List ℕ} {r : Reply} {u : List ℕ} where
      pub secret_kept_lem : agree b goal ≡ true → r ≡ showing 15 paper.Dossier entry_next d o.secret → Explained o.secret t u → SaysWitness by_secret t r u
      unfolding choose
      secret_kept_lem h g x = subst (λ (y : Outcome). SaysWitness y t r u) (secret_by h) (says_secret g x)

      pub secret_changed : agree b goal ≡ false → r ≡ accepted said.Opaque → u ≡ t → SaysWitness by_secret t r u
      unfolding choose
      secret_changed h g x = subst (λ (y : Outcome). SaysWitness y t r u) (secret_by h) (says_opaque g x)

-- ---- a proof

module _ (D : Dossier) (s lines : List ℕ) (k : ℕ) (t : Starts (line.next s) 2 k lines) {f : maybe.Option ℕ} (e : f ≡ untold (lowest (line_follows D (many line s 2 k)) 0 k)) where
  proposed : List Line
  proposed = many line s 2 k

  lines_many : length proposed ≡ k
  unfolding proposed
  lines_many = many_length line s 2 k

  by_lines : Option ℕ → Outcome
  by_lines x = decide x line_fails (last_empty proposed) detectable last_not_empty

  pub line_below : {j : ℕ} → f ≡ maybe.Some j → j < k
  line_below h = lowest_below _ _ _ (fault_at e h)

  pub proof_fails : (d : List ℕ) (o : Layout) {j : ℕ} {r : Reply} → f ≡ maybe.Some j → r ≡ showing 16 paper.Certificate line_next s (get_or lines j 0) → r ≡ reply_at d o s k (judge D (proof (many line s 2 k)))
  unfolding judge decide reply_at proposed by_lines
  proof_fails d o {j} {r} h g =
      let out : lowest (line_follows D proposed) 0 (length proposed) ≡ some j = ap (λ (n : ℕ). lowest (line_follows D proposed) 0 n) lines_many ∙ fault_at e h in
      g ∙ ap (λ (p : ℕ). showing 16 paper.Certificate line_next s p) (t.each j (line_below h)) ∙ ap (λ (x : Option ℕ). reply_at d o s k (by_lines x)) (sym out)

  last_is : 1 ≤ k → last_empty proposed ≡ ((line_at s (place (line.next s) 2 (k - 1))).count is 0)
  unfolding last_empty named proposed
  last_is h =
      let z : k - 1 < k = omega arith in
      ap (λ (n : ℕ). named (at proposed (n - 1)) (λ l. length l.literals is 0)) lines_many
      ∙ ap (λ (x : Option Line). named x (λ l. length l.literals is 0)) (many_at line s 2 k (k - 1) z)
      ∙ ap (λ (n : ℕ). n is 0) (many_length literal s (line_at s (place (line.next s) 2 (k - 1))).literals (line_at s (place (line.next s) 2 (k - 1))).count)

  by_last : (d : List ℕ) (o : Layout) (b : Bool) → choose b (accepted said.Detectable) (showing 17 paper.Certificate line_next s (place (line.next s) 2 (k - 1))) ≡ reply_at d o s k (choose b detectable last_not_empty)
  unfolding choose reply_at
  by_last d o true = refl
  by_last d o false = refl

  pub proof_last : (d : List ℕ) (o : Layout) {r : Reply} → 1 ≤ k → f ≡ maybe.None → r ≡ choose ((line_at s (get_or lines (k - 1) 0)).count is 0) (accepted said.Detectable) (showing 17 paper.Certificate line_next s (get_or lines (k - 1) 0)) → r ≡ reply_at d o s k (judge D (proof (many line s 2 k)))
  unfolding judge decide proposed by_lines
  proof_last d o {r} h i g =
      let z : k - 1 < k = omega arith in
      let out : lowest (line_follows D proposed) 0 (length proposed) ≡ none = ap (λ (n : ℕ). lowest (line_follows D proposed) 0 n) lines_many ∙ fault_none e i in
      g ∙ ap (λ (p : ℕ). choose ((line_at s p).count is 0) (accepted said.Detectable) (showing 17 paper.Certificate line_next s p)) (t.each (k - 1) z)
      ∙ by_last d o ((line_at s (place (line.next s) 2 (k - 1))).count is 0)
      ∙ ap (λ (b : Bool). reply_at d o s k (choose b detectable last_not_empty)) (sym (last_is h))
      ∙ ap (λ (x : Option ℕ). reply_at d o s k (by_lines x)) (sym out)
