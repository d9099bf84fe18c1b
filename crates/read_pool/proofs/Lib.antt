mod PartsLemmas
