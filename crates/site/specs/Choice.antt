-- A choice by a test: the first where the test holds, else the second.
use Rattle.std.specs.Prelude.{Bool, true, false}

abbrev pub pick {ℓ} : {X : Type ℓ} → Bool → X → X → X
pick true a b = a
pick false a b = b
