mod OptionPairs
